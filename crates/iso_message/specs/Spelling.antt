-- The one spelling of each message: its type, the bitmap of its fields, and the fields in rising order
-- (ISO 8583:1987; what each field holds is this profile's own).
use Rattle.std.specs.Prelude.{ℕ, List, [], ◌∷◌, ◌++◌, map, drop}
use Rattle.emv_dict.specs.Nibbles.{nibbles}
use Rattle.auth_message.specs.declared.message.Incoming.{Incoming}
use Rattle.auth_message.specs.declared.message.Incoming.TheVariants.{Request, Present, Reverse}
use Rattle.auth_message.specs.declared.reversal.ReversalFields.{ReversalFields}
use Rattle.auth_message.specs.Data.{RequestData, PresentData}
use Rattle.auth_message.specs.Reply.{ReplyData}
use Rattle.auth_message.specs.Spelling.{optional, spelled}
use Rattle.iso_message.specs.declared.kind.CallKind.{CallKind}
use Rattle.iso_message.specs.declared.kind.CallKind.TheVariants as kind
use Rattle.iso_message.specs.Items.{request_items, present_items, reversal_items, reply_items}
use Rattle.iso_message.specs.Layout.{call_type, reply_type, bitmap}
use Rattle.iso_message.specs.Text.{digit_characters, zeros, with_length, counter_digits}

-- 2, the account number
abbrev pub account_number_field : List ℕ → ℕ × List ℕ
account_number_field pan = (2, with_length 2 (digit_characters pan))

-- 3, the processing code: the transaction type 9C, then four zeros
abbrev pub processing_field : List ℕ → ℕ × List ℕ
processing_field t9c = (3, digit_characters (nibbles t9c) ++ zeros 4)

-- 4, the amount
abbrev pub amount_field : List ℕ → ℕ × List ℕ
amount_field t9f02 = (4, digit_characters (nibbles t9f02))

-- 11, the system trace audit number: the card's counter
abbrev pub audit_field : List ℕ → ℕ × List ℕ
audit_field t9f36 = (11, counter_digits t9f36)

-- 37, the retrieval reference number: the counter again behind six zeros
abbrev pub reference_field : List ℕ → ℕ × List ℕ
reference_field t9f36 = (37, zeros 6 ++ counter_digits t9f36)

-- 39, the response code
abbrev pub code_field : List ℕ → ℕ × List ℕ
code_field t8a = (39, t8a)

-- 41, the card acceptor terminal identification
abbrev pub terminal_field : List ℕ → ℕ × List ℕ
terminal_field t9f1c = (41, t9f1c)

-- 49, the currency: the last three digits of 5F2A
abbrev pub currency_field : List ℕ → ℕ × List ℕ
currency_field t5f2a = (49, digit_characters (drop 1 (nibbles t5f2a)))

-- 55, the items that no other field has
abbrev pub items_field : List (ℕ × List ℕ) → ℕ × List ℕ
items_field items = (55, with_length 4 (spelled items))

-- what stands in the fields
abbrev pub contents : List (ℕ × List ℕ) → List ℕ
contents [] = []
contents (field ∷ fields) = field.1 ++ contents fields

-- a message of a type
abbrev pub in_fields : List ℕ → List (ℕ × List ℕ) → List ℕ
in_fields type fields = type ++ (bitmap (map (λ field. field.0) fields) ++ contents fields)

-- a request; 52 is the block of an online PIN
unfoldable pub iso_request_bytes : RequestData → List ℕ
iso_request_bytes f =
    in_fields (call_type kind.Request)
    (account_number_field f.named.pan
    ∷ processing_field f.paid.t9c
    ∷ amount_field f.paid.t9f02
    ∷ audit_field f.paid.t9f36
    ∷ reference_field f.paid.t9f36
    ∷ terminal_field f.named.t9f1c
    ∷ currency_field f.paid.t5f2a
    ∷ (optional 52 f.tdf11 ++ items_field (request_items f) ∷ []))

unfoldable pub iso_present_bytes : PresentData → List ℕ
iso_present_bytes f =
    in_fields (call_type kind.Presentment)
    (account_number_field f.named.pan
    ∷ processing_field f.paid.t9c
    ∷ amount_field f.paid.t9f02
    ∷ audit_field f.paid.t9f36
    ∷ reference_field f.paid.t9f36
    ∷ code_field f.t8a
    ∷ terminal_field f.named.t9f1c
    ∷ currency_field f.paid.t5f2a
    ∷ items_field (present_items f)
    ∷ [])

unfoldable pub iso_reversal_bytes : ReversalFields → List ℕ
iso_reversal_bytes f =
    in_fields (call_type kind.Reversal)
    (account_number_field f.pan
    ∷ amount_field f.t9f02
    ∷ audit_field f.t9f36
    ∷ reference_field f.t9f36
    ∷ code_field f.t8a
    ∷ terminal_field f.t9f1c
    ∷ currency_field f.t5f2a
    ∷ items_field (reversal_items f)
    ∷ [])

-- a call
abbrev pub call_bytes : Incoming → List ℕ
call_bytes (Request f) = iso_request_bytes f
call_bytes (Present f) = iso_present_bytes f
call_bytes (Reverse f) = iso_reversal_bytes f

-- the reply to a call of a kind; its scripts stand as they are behind the items
unfoldable pub iso_reply_bytes : CallKind → ReplyData → List ℕ
iso_reply_bytes of reply =
    in_fields (reply_type of)
    (code_field reply.code
    ∷ (55, with_length 4 (spelled (reply_items reply.auth) ++ reply.scripts))
    ∷ [])
