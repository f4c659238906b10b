-- The fields of each message in their order, read from its items (own).
use Rattle.std.specs.Prelude.{true, false, List, Result, Ok}
use Rattle.ber_tlv.specs.Item.{ItemData}
use Rattle.auth_message.specs.declared.fault.MessageFault.{MessageFault}
use Rattle.auth_message.specs.declared.reversal.ReversalFields.{ReversalFields}
use Rattle.auth_message.specs.Data.{RequestData, PresentData}
use Rattle.auth_message.specs.Fields.{◌>>=◌, fixed_at, some_at, fixed_if_there, no_item_left}
use Rattle.auth_message.specs.Groups.{named_at, paid_at}

-- a request (E1): what names it, 5F24, the payment, 9F10 of at most 32 bytes, and DF11 if it is there
unfoldable pub request_at : List ItemData → Result RequestData MessageFault
request_at items = do
  named ← named_at items
  t5f24 ← fixed_at 3 true 0x5F24 named.1
  paid ← paid_at t5f24.1
  t9f10 ← some_at 0 32 0x9F10 paid.1
  tdf11 ← fixed_if_there 8 false 0xDF11 t9f10.1
  end ← no_item_left tdf11.1
  Ok (record { named = named.0; t5f24 = t5f24.0; paid = paid.0; t9f10 = t9f10.0; tdf11 = tdf11.0 })

-- a presentment (E3): what names it, the payment, 9F10 of at most 32 bytes, and 8A
unfoldable pub present_at : List ItemData → Result PresentData MessageFault
present_at items = do
  named ← named_at items
  paid ← paid_at named.1
  t9f10 ← some_at 0 32 0x9F10 paid.1
  t8a ← fixed_at 2 false 0x8A t9f10.1
  end ← no_item_left t8a.1
  Ok (record { named = named.0; paid = paid.0; t9f10 = t9f10.0; t8a = t8a.0 })

-- a reversal (E4): what names it, 9F36, 9F02, 5F2A and 8A
unfoldable pub reversal_at : List ItemData → Result ReversalFields MessageFault
reversal_at items = do
  named ← named_at items
  t9f36 ← fixed_at 2 false 0x9F36 named.1
  t9f02 ← fixed_at 6 true 0x9F02 t9f36.1
  t5f2a ← fixed_at 2 true 0x5F2A t9f02.1
  t8a ← fixed_at 2 false 0x8A t5f2a.1
  end ← no_item_left t8a.1
  Ok (record {
    t9f1c = named.0.t9f1c;
    pan = named.0.pan;
    t5f34 = named.0.t5f34;
    t9f36 = t9f36.0;
    t9f02 = t9f02.0;
    t5f2a = t5f2a.0;
    t8a = t8a.0;
  })
