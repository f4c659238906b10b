-- The fields that several messages share, in their order (own).
use Rattle.std.specs.Prelude.{true, false, List, Result, Ok}
use Rattle.ber_tlv.specs.Item.{ItemData}
use Rattle.auth_message.specs.declared.fault.MessageFault.{MessageFault}
use Rattle.auth_message.specs.declared.groups.Named.{Named}
use Rattle.auth_message.specs.declared.groups.Paid.{Paid}
use Rattle.auth_message.specs.Fields.{◌>>=◌, fixed_at, pan_at, fixed_if_there}

-- the terminal, the account and the card: 9F1C, 5A, and 5F34 if it is there
unfoldable pub named_at : List ItemData → Result (Named × List ItemData) MessageFault
named_at items = do
  t9f1c ← fixed_at 8 false 0x9F1C items
  pan ← pan_at t9f1c.1
  t5f34 ← fixed_if_there 1 true 0x5F34 pan.1
  Ok (record { t9f1c = t9f1c.0; pan = pan.0; t5f34 = t5f34.0 }, t5f34.1)

-- the payment: 9F02, 9F03, 9F1A, 95, 5F2A, 9A, 9C, 9F37, 82, 9F36 and 9F26
unfoldable pub paid_at : List ItemData → Result (Paid × List ItemData) MessageFault
paid_at items = do
  t9f02 ← fixed_at 6 true 0x9F02 items
  t9f03 ← fixed_at 6 true 0x9F03 t9f02.1
  t9f1a ← fixed_at 2 false 0x9F1A t9f03.1
  t95 ← fixed_at 5 false 0x95 t9f1a.1
  t5f2a ← fixed_at 2 true 0x5F2A t95.1
  t9a ← fixed_at 3 true 0x9A t5f2a.1
  t9c ← fixed_at 1 false 0x9C t9a.1
  t9f37 ← fixed_at 4 false 0x9F37 t9c.1
  t82 ← fixed_at 2 false 0x82 t9f37.1
  t9f36 ← fixed_at 2 false 0x9F36 t82.1
  t9f26 ← fixed_at 8 false 0x9F26 t9f36.1
  Ok (
    record {
      t9f02 = t9f02.0;
      t9f03 = t9f03.0;
      t9f1a = t9f1a.0;
      t95 = t95.0;
      t5f2a = t5f2a.0;
      t9a = t9a.0;
      t9c = t9c.0;
      t9f37 = t9f37.0;
      t82 = t82.0;
      t9f36 = t9f36.0;
      t9f26 = t9f26.0;
    },
    t9f26.1,
  )
