-- The items of field 55, the data of the card: what a message has and no other field, in the order in which
-- the message of a terminal has it (ISO 8583 field 55; own).
use Rattle.std.specs.Prelude.{ℕ, true, false, List, [], ◌∷◌, ◌++◌, Option, Result, Ok}
use Rattle.ber_tlv.specs.Item.{ItemData}
use Rattle.auth_message.specs.declared.fault.MessageFault.{MessageFault}
use Rattle.auth_message.specs.declared.groups.Paid.{Paid}
use Rattle.auth_message.specs.declared.reversal.ReversalFields.{ReversalFields}
use Rattle.auth_message.specs.Data.{RequestData, PresentData}
use Rattle.auth_message.specs.Fields.{◌>>=◌, fixed_at, some_at, fixed_if_there, no_item_left}
use Rattle.auth_message.specs.Reply.{ReplyData, auth_at, scripts_in_items}
use Rattle.auth_message.specs.Spelling.{optional}
use Rattle.iso_message.specs.declared.front.Acceptor.{Acceptor}
use Rattle.iso_message.specs.declared.front.Numbers.{Numbers}
use Rattle.iso_message.specs.declared.front.RequestFront.{RequestFront}
use Rattle.iso_message.specs.declared.front.PresentFront.{PresentFront}
use Rattle.iso_message.specs.declared.front.ReversalFront.{ReversalFront}
use Rattle.iso_message.specs.declared.icc.IccData.{IccData}

-- what a request and a presentment share but 9F10: 9F03, 9F1A, 95, 9A, 9F37, 82, 9F36 and 9F26
abbrev pub icc_items : IccData → List (ℕ × List ℕ)
icc_items icc =
    (0x9F03, icc.t9f03)
    ∷ (0x9F1A, icc.t9f1a)
    ∷ (0x95, icc.t95)
    ∷ (0x9A, icc.t9a)
    ∷ (0x9F37, icc.t9f37)
    ∷ (0x82, icc.t82)
    ∷ (0x9F36, icc.t9f36)
    ∷ (0x9F26, icc.t9f26)
    ∷ []

-- these of a payment
abbrev pub icc_of : Paid → IccData
icc_of paid = record {
  t9f03 = paid.t9f03;
  t9f1a = paid.t9f1a;
  t95 = paid.t95;
  t9a = paid.t9a;
  t9f37 = paid.t9f37;
  t82 = paid.t82;
  t9f36 = paid.t9f36;
  t9f26 = paid.t9f26;
}

-- the payment whose other fields stand before field 55
abbrev pub paid_of : Numbers → Acceptor → List ℕ → IccData → Paid
paid_of numbers acceptor t9c icc = record {
  t9f02 = numbers.t9f02;
  t9f03 = icc.t9f03;
  t9f1a = icc.t9f1a;
  t95 = icc.t95;
  t5f2a = acceptor.t5f2a;
  t9a = icc.t9a;
  t9c = t9c;
  t9f37 = icc.t9f37;
  t82 = icc.t82;
  t9f36 = icc.t9f36;
  t9f26 = icc.t9f26;
}

-- of a request: 5F34 if it is there, 5F24, the shared ones and 9F10
abbrev pub request_items : RequestData → List (ℕ × List ℕ)
request_items f =
    optional 0x5F34 f.named.t5f34 ++ ((0x5F24, f.t5f24) ∷ (icc_items (icc_of f.paid) ++ (0x9F10, f.t9f10) ∷ []))

-- of a presentment: the same without 5F24
abbrev pub present_items : PresentData → List (ℕ × List ℕ)
present_items f = optional 0x5F34 f.named.t5f34 ++ (icc_items (icc_of f.paid) ++ (0x9F10, f.t9f10) ∷ [])

-- of a reversal: 5F34 if it is there, and 9F36
abbrev pub reversal_items : ReversalFields → List (ℕ × List ℕ)
reversal_items f = optional 0x5F34 f.t5f34 ++ (0x9F36, f.t9f36) ∷ []

-- of a reply, before its scripts: 91 if it is there
abbrev pub reply_items : Option (List ℕ) → List (ℕ × List ℕ)
reply_items auth = optional 0x91 auth

unfoldable pub icc_at : List ItemData → Result (IccData × List ItemData) MessageFault
icc_at items = do
  t9f03 ← fixed_at 6 true 0x9F03 items
  t9f1a ← fixed_at 2 false 0x9F1A t9f03.1
  t95 ← fixed_at 5 false 0x95 t9f1a.1
  t9a ← fixed_at 3 true 0x9A t95.1
  t9f37 ← fixed_at 4 false 0x9F37 t9a.1
  t82 ← fixed_at 2 false 0x82 t9f37.1
  t9f36 ← fixed_at 2 false 0x9F36 t82.1
  t9f26 ← fixed_at 8 false 0x9F26 t9f36.1
  Ok (
    record {
      t9f03 = t9f03.0;
      t9f1a = t9f1a.0;
      t95 = t95.0;
      t9a = t9a.0;
      t9f37 = t9f37.0;
      t82 = t82.0;
      t9f36 = t9f36.0;
      t9f26 = t9f26.0;
    },
    t9f26.1,
  )

abbrev pub request_of_parts : RequestFront → Option (List ℕ) → List ℕ → IccData → List ℕ → RequestData
request_of_parts front t5f34 t5f24 icc t9f10 = record {
  named = record { t9f1c = front.acceptor.t9f1c; pan = front.pan; t5f34 = t5f34 };
  t5f24 = t5f24;
  paid = paid_of front.numbers front.acceptor front.t9c icc;
  t9f10 = t9f10;
  tdf11 = front.tdf11;
}

-- the request whose other fields are known
unfoldable pub request_in : RequestFront → List ItemData → Result RequestData MessageFault
request_in front items = do
  t5f34 ← fixed_if_there 1 true 0x5F34 items
  t5f24 ← fixed_at 3 true 0x5F24 t5f34.1
  icc ← icc_at t5f24.1
  t9f10 ← some_at 0 32 0x9F10 icc.1
  end ← no_item_left t9f10.1
  Ok (request_of_parts front t5f34.0 t5f24.0 icc.0 t9f10.0)

abbrev pub present_of : PresentFront → Option (List ℕ) → IccData → List ℕ → PresentData
present_of front t5f34 icc t9f10 = record {
  named = record { t9f1c = front.acceptor.t9f1c; pan = front.pan; t5f34 = t5f34 };
  paid = paid_of front.numbers front.acceptor front.t9c icc;
  t9f10 = t9f10;
  t8a = front.t8a;
}

unfoldable pub present_in : PresentFront → List ItemData → Result PresentData MessageFault
present_in front items = do
  t5f34 ← fixed_if_there 1 true 0x5F34 items
  icc ← icc_at t5f34.1
  t9f10 ← some_at 0 32 0x9F10 icc.1
  end ← no_item_left t9f10.1
  Ok (present_of front t5f34.0 icc.0 t9f10.0)

unfoldable pub reversal_in : ReversalFront → List ItemData → Result ReversalFields MessageFault
reversal_in front items = do
  t5f34 ← fixed_if_there 1 true 0x5F34 items
  t9f36 ← fixed_at 2 false 0x9F36 t5f34.1
  end ← no_item_left t9f36.1
  Ok (record {
    t9f1c = front.acceptor.t9f1c;
    pan = front.pan;
    t5f34 = t5f34.0;
    t9f36 = t9f36.0;
    t9f02 = front.numbers.t9f02;
    t5f2a = front.acceptor.t5f2a;
    t8a = front.t8a;
  })

-- the reply whose code is known; the items stand in these bytes
unfoldable pub reply_with_code : List ℕ → List ℕ → List ItemData → Result ReplyData MessageFault
reply_with_code code bytes items = do
  auth ← auth_at items
  scripts ← scripts_in_items bytes auth.1
  end ← no_item_left scripts.1
  Ok (record { code = code; auth = auth.0; scripts = scripts.0 })
