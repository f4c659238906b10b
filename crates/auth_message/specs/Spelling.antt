-- The one spelling of each message: its fields in their order, each in its shortest form, those that are
-- absent left out, all in one item (own).
use Rattle.std.specs.Prelude.{ℕ, List, [], ◌∷◌, ◌++◌, Option, Some, None}
use Rattle.ber_tlv.specs.Written.{written}
use Rattle.emv_dict.specs.Pan.{pan_field}
use Rattle.auth_message.specs.declared.groups.Named.{Named}
use Rattle.auth_message.specs.declared.groups.Paid.{Paid}
use Rattle.auth_message.specs.declared.reversal.ReversalFields.{ReversalFields}
use Rattle.auth_message.specs.Data.{RequestData, PresentData}

-- a field that may be absent
abbrev pub optional : ℕ → Option (List ℕ) → List (ℕ × List ℕ)
optional tag None = []
optional tag (Some value) = (tag, value) ∷ []

-- the bytes of fields, each given by its tag and the bytes of its value
abbrev pub spelled : List (ℕ × List ℕ) → List ℕ
spelled [] = []
spelled (field ∷ fields) = written field.0 field.1 ++ spelled fields

-- what names a transaction
abbrev pub named_fields : Named → List (ℕ × List ℕ)
named_fields named = (0x9F1C, named.t9f1c) ∷ (0x5A, pan_field named.pan) ∷ optional 0x5F34 named.t5f34

-- the payment
abbrev pub paid_fields : Paid → List (ℕ × List ℕ)
paid_fields paid =
    (0x9F02, paid.t9f02)
    ∷ (0x9F03, paid.t9f03)
    ∷ (0x9F1A, paid.t9f1a)
    ∷ (0x95, paid.t95)
    ∷ (0x5F2A, paid.t5f2a)
    ∷ (0x9A, paid.t9a)
    ∷ (0x9C, paid.t9c)
    ∷ (0x9F37, paid.t9f37)
    ∷ (0x82, paid.t82)
    ∷ (0x9F36, paid.t9f36)
    ∷ (0x9F26, paid.t9f26)
    ∷ []

abbrev pub request_fields : RequestData → List (ℕ × List ℕ)
request_fields f =
    named_fields f.named
    ++ ((0x5F24, f.t5f24) ∷ (paid_fields f.paid ++ ((0x9F10, f.t9f10) ∷ optional 0xDF11 f.tdf11)))

-- a request
unfoldable pub request_bytes : RequestData → List ℕ
request_bytes f = written 0xE1 (spelled (request_fields f))

abbrev pub present_fields : PresentData → List (ℕ × List ℕ)
present_fields f =
    named_fields f.named
    ++ (paid_fields f.paid ++ ((0x9F10, f.t9f10) ∷ (0x8A, f.t8a) ∷ []))

-- a presentment
unfoldable pub present_bytes : PresentData → List ℕ
present_bytes f = written 0xE3 (spelled (present_fields f))

abbrev pub reversal_named : ReversalFields → Named
reversal_named f = record { t9f1c = f.t9f1c; pan = f.pan; t5f34 = f.t5f34 }

abbrev pub reversal_fields : ReversalFields → List (ℕ × List ℕ)
reversal_fields f =
    named_fields (reversal_named f)
    ++ (0x9F36, f.t9f36) ∷ (0x9F02, f.t9f02) ∷ (0x5F2A, f.t5f2a) ∷ (0x8A, f.t8a) ∷ []

-- a reversal
unfoldable pub reversal_bytes : ReversalFields → List ℕ
reversal_bytes f = written 0xE4 (spelled (reversal_fields f))

abbrev pub reply_fields : List ℕ → Option (List ℕ) → List (ℕ × List ℕ)
reply_fields code auth = (0x8A, code) ∷ optional 0x91 auth

-- a reply, whose scripts stand as they are behind its fields
unfoldable pub reply_bytes : List ℕ → Option (List ℕ) → List ℕ → List ℕ
reply_bytes code auth scripts = written 0xE2 (spelled (reply_fields code auth) ++ scripts)
