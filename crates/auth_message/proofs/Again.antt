-- Each message that is written is read back with the same fields.
use Rattle.std.proofs.Common.{◌≡◌, ℕ, true, false, ◌&&◌, IfSome, ◌≤◌, nat_le, List, [], ◌∷◌, ◌++◌, length, Option, Some, None, Ok, refl, sym, ap, ◌∙◌, arith, append-nil, ◌==◌}
use Rattle.std.proofs.lemmas.Bool.{le-leb}
use Rattle.emv_dict.specs.Pan.{pan_of, pan_field}
use Rattle.auth_message.specs.declared.groups.Named.{Named}
use Rattle.auth_message.specs.declared.groups.Paid.{Paid}
use Rattle.auth_message.specs.declared.message.Incoming.{Incoming}
use Rattle.auth_message.specs.declared.message.Incoming.TheVariants.{Request, Present, Reverse}
use Rattle.auth_message.specs.declared.reversal.ReversalFields.{ReversalFields}
use Rattle.auth_message.specs.Accepted.{AreDigitBytes, IsRequest, IsPresent, IsReversal}
use Rattle.auth_message.specs.Data.{RequestData, PresentData, NamedSizes, PaidSizes}
use Rattle.auth_message.specs.Fields.{◌>>=◌, fixed_if_there}
use Rattle.auth_message.specs.Message.{message_of, message_in}
use Rattle.auth_message.specs.Messages.{request_at, present_at, reversal_at}
use Rattle.auth_message.specs.Spelling.{optional, paid_fields, request_fields, request_bytes, reversal_named, spelled, present_fields, present_bytes, reversal_fields, reversal_bytes}
use Rattle.auth_message.specs.Whole.{message_bytes, IsAccepted, HasCodes, IsMessage}
use Rattle.auth_message.proofs.Spelled.{placed, are_tags, fields_read, front_length, optional_front, optional_last}
use Rattle.auth_message.proofs.ReadBack.{IsOther, IsNamed, IsPaid, IsOptional, next_place, named_again, paid_again, fixed_again, some_again, optional_again, any_bytes, digit_bytes}

-- the lengths that the types of a message's fields fix
abbrev pub RequestSizes : RequestData → Type 0
RequestSizes f = NamedSizes f.named × (length f.t5f24 ≡ 3) × PaidSizes f.paid × IfSome f.tdf11 (λ v. length v ≡ 8)

abbrev pub PresentSizes : PresentData → Type 0
PresentSizes f = NamedSizes f.named × PaidSizes f.paid × (length f.t8a ≡ 2)

abbrev pub ReversalSizes : ReversalFields → Type 0
ReversalSizes f = (length f.t9f1c ≡ 8) × IfSome f.t5f34 (λ v. length v ≡ 1) × (length f.t9f36 ≡ 2) × (length f.t9f02 ≡ 6) × (length f.t5f2a ≡ 2) × (length f.t8a ≡ 2)

sequence : (value : Option (List ℕ)) → IfSome value (λ v. length v ≡ 1) → IfSome value AreDigitBytes → IsOptional 1 true value
sequence None size digits = tt
sequence (Some value) size digits = digit_bytes 1 value size digits

block : (value : Option (List ℕ)) → IfSome value (λ v. length v ≡ 8) → IsOptional 8 false value
block None size = tt
block (Some value) size = any_bytes 8 value size

at_most : (value : List ℕ) (most : ℕ) → length value ≤ most → (nat_le 0 (length value) && nat_le (length value) most) ≡ true
at_most value most small = rw (le-leb 0 (length value) (omega arith), le-leb (length value) most small) refl

request_tags : (f : RequestData) → are_tags (request_fields f) ≡ true
request_tags f = optional_front 0x5F34 f.named.t5f34 _ refl (optional_last 0xDF11 f.tdf11 refl)

present_tags : (f : PresentData) → are_tags (present_fields f) ≡ true
present_tags f = optional_front 0x5F34 f.named.t5f34 _ refl refl

reversal_tags : (f : ReversalFields) → are_tags (reversal_fields f) ≡ true
reversal_tags f = optional_front 0x5F34 f.t5f34 _ refl refl

-- a field with another tag comes first
headed : (tag other : ℕ) (value : List ℕ) (rest : List (ℕ × List ℕ)) → (other == tag) ≡ false → IsOther tag ((other, value) ∷ rest)
headed tag other value rest differs = record { absent = λ place. rw differs refl; left = λ place. rw differs refl }

bare : (tag : ℕ) → IsOther tag []
bare tag = record { absent = λ place. refl; left = λ place. refl }

block_again : (place : ℕ) (value : Option (List ℕ)) → IsOptional 8 false value → (next : ℕ) × (fixed_if_there 8 false 0xDF11 (placed place (optional 0xDF11 value)) ≡ Ok (value, placed next []))
block_again place value is =
    let again = optional_again 8 false 0xDF11 place value [] is (bare 0xDF11) in
    (again.0, ap (λ l. fixed_if_there 8 false 0xDF11 (placed place l)) (sym (append-nil (optional 0xDF11 value))) ∙ again.1)

-- what names a transaction, as it is read back
named_is : (named : Named) → pan_of (pan_field named.pan) ≡ Ok named.pan → IfSome named.t5f34 AreDigitBytes → NamedSizes named → IsNamed named
named_is named account digits sizes = record { terminal = sizes.0; account = account; sequence = sequence named.t5f34 sizes.1 digits }

-- a payment, as it is read back
paid_is : (paid : Paid) → AreDigitBytes paid.t9f02 → AreDigitBytes paid.t9f03 → AreDigitBytes paid.t5f2a → AreDigitBytes paid.t9a → PaidSizes paid → IsPaid paid
paid_is paid amount other currency date sizes = record {
  t9f02 = digit_bytes 6 paid.t9f02 sizes.0 amount;
  t9f03 = digit_bytes 6 paid.t9f03 sizes.1 other;
  t9f1a = any_bytes 2 paid.t9f1a sizes.2;
  t95 = any_bytes 5 paid.t95 sizes.3;
  t5f2a = digit_bytes 2 paid.t5f2a sizes.4 currency;
  t9a = digit_bytes 3 paid.t9a sizes.5 date;
  t9c = any_bytes 1 paid.t9c sizes.6;
  t9f37 = any_bytes 4 paid.t9f37 sizes.7;
  t82 = any_bytes 2 paid.t82 sizes.8;
  t9f36 = any_bytes 2 paid.t9f36 sizes.9;
  t9f26 = any_bytes 8 paid.t9f26 sizes.10;
}

request_read : (place : ℕ) (f : RequestData) → IsRequest f → pan_of (pan_field f.named.pan) ≡ Ok f.named.pan → RequestSizes f → request_at (placed place (request_fields f)) ≡ Ok f
unfolding request_at
request_read place f is account sizes =
    let last : List (ℕ × List ℕ) = (0x9F10, f.t9f10) ∷ optional 0xDF11 f.tdf11 in
    let middle : List (ℕ × List ℕ) = (0x5F24, f.t5f24) ∷ (paid_fields f.paid ++ last) in
    let named = named_again place f.named middle (named_is f.named account is.sequence_number sizes.0) (headed 0x5F34 0x5F24 f.t5f24 (paid_fields f.paid ++ last) refl) in
    let expiry = fixed_again 3 true 0x5F24 named.0 f.t5f24 (paid_fields f.paid ++ last) (digit_bytes 3 f.t5f24 sizes.1 is.expiry) in
    let paid = paid_again (next_place named.0 0x5F24 f.t5f24) f.paid last (paid_is f.paid is.amount is.other_amount is.currency is.date sizes.2) in
    let issuer = some_again 0 32 0x9F10 paid.0 f.t9f10 (optional 0xDF11 f.tdf11) (at_most f.t9f10 32 is.issuer_data) in
    let pin = block_again (next_place paid.0 0x9F10 f.t9f10) f.tdf11 (block f.tdf11 sizes.3) in
    rw (named.1, expiry, paid.1, issuer, pin.1) refl

present_read : (place : ℕ) (f : PresentData) → IsPresent f → pan_of (pan_field f.named.pan) ≡ Ok f.named.pan → PresentSizes f → present_at (placed place (present_fields f)) ≡ Ok f
unfolding present_at
present_read place f is account sizes =
    let last : List (ℕ × List ℕ) = (0x9F10, f.t9f10) ∷ (0x8A, f.t8a) ∷ [] in
    let named = named_again place f.named (paid_fields f.paid ++ last) (named_is f.named account is.sequence_number sizes.0) (headed 0x5F34 0x9F02 f.paid.t9f02 _ refl) in
    let paid = paid_again named.0 f.paid last (paid_is f.paid is.amount is.other_amount is.currency is.date sizes.1) in
    let issuer = some_again 0 32 0x9F10 paid.0 f.t9f10 ((0x8A, f.t8a) ∷ []) (at_most f.t9f10 32 is.issuer_data) in
    let code = fixed_again 2 false 0x8A (next_place paid.0 0x9F10 f.t9f10) f.t8a [] (any_bytes 2 f.t8a sizes.2) in
    rw (named.1, paid.1, issuer, code) refl

reversal_read : (place : ℕ) (f : ReversalFields) → IsReversal f → pan_of (pan_field f.pan) ≡ Ok f.pan → ReversalSizes f → reversal_at (placed place (reversal_fields f)) ≡ Ok f
unfolding reversal_at
reversal_read place f is account sizes =
    let fourth : List (ℕ × List ℕ) = (0x8A, f.t8a) ∷ [] in
    let third : List (ℕ × List ℕ) = (0x5F2A, f.t5f2a) ∷ fourth in
    let second : List (ℕ × List ℕ) = (0x9F02, f.t9f02) ∷ third in
    let named = named_again place (reversal_named f) ((0x9F36, f.t9f36) ∷ second) (named_is (reversal_named f) account is.sequence_number (sizes.0, sizes.1)) (headed 0x5F34 0x9F36 f.t9f36 second refl) in
    let counter = fixed_again 2 false 0x9F36 named.0 f.t9f36 second (any_bytes 2 f.t9f36 sizes.2) in
    let behind_counter = next_place named.0 0x9F36 f.t9f36 in
    let amount = fixed_again 6 true 0x9F02 behind_counter f.t9f02 third (digit_bytes 6 f.t9f02 sizes.3 is.amount) in
    let behind_amount = next_place behind_counter 0x9F02 f.t9f02 in
    let currency = fixed_again 2 true 0x5F2A behind_amount f.t5f2a fourth (digit_bytes 2 f.t5f2a sizes.4 is.currency) in
    let code = fixed_again 2 false 0x8A (next_place behind_amount 0x5F2A f.t5f2a) f.t8a [] (any_bytes 2 f.t8a sizes.5) in
    rw (named.1, counter, amount, currency, code) refl

known : List ℕ
known = 0xE1 ∷ 0xE3 ∷ 0xE4 ∷ []

pub request_again : (f : RequestData) → IsRequest f → pan_of (pan_field f.named.pan) ≡ Ok f.named.pan → RequestSizes f → message_of (request_bytes f) ≡ Ok (Request f)
unfolding request_bytes known
request_again f is account sizes =
    let place = front_length 0xE1 (spelled (request_fields f)) in
    let outer = fields_read known 0xE1 (request_fields f) refl refl (request_tags f) in
    ap (λ r. r >>= message_in) outer ∙ ap (λ r. r >>= λ fields. Ok (Request fields)) (request_read place f is account sizes)

pub present_again : (f : PresentData) → IsPresent f → pan_of (pan_field f.named.pan) ≡ Ok f.named.pan → PresentSizes f → message_of (present_bytes f) ≡ Ok (Present f)
unfolding present_bytes known
present_again f is account sizes =
    let place = front_length 0xE3 (spelled (present_fields f)) in
    let outer = fields_read known 0xE3 (present_fields f) refl refl (present_tags f) in
    ap (λ r. r >>= message_in) outer ∙ ap (λ r. r >>= λ fields. Ok (Present fields)) (present_read place f is account sizes)

pub reversal_again : (f : ReversalFields) → IsReversal f → pan_of (pan_field f.pan) ≡ Ok f.pan → ReversalSizes f → message_of (reversal_bytes f) ≡ Ok (Reverse f)
unfolding reversal_bytes known
reversal_again f is account sizes =
    let place = front_length 0xE4 (spelled (reversal_fields f)) in
    let outer = fields_read known 0xE4 (reversal_fields f) refl refl (reversal_tags f) in
    ap (λ r. r >>= message_in) outer ∙ ap (λ r. r >>= λ fields. Ok (Reverse fields)) (reversal_read place f is account sizes)

-- bytes that are a message as it is written
pub written_message : (bytes : List ℕ) (message : Incoming) → bytes ≡ message_bytes message → message_of (message_bytes message) ≡ Ok message → IsAccepted message → HasCodes message → IsMessage bytes
written_message bytes message exact read accepted codes = record {
  message = message;
  read = ap message_of exact ∙ read;
  exact = exact;
  accepted = accepted;
  codes = codes;
}
