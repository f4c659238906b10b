-- The items of field 55 are read back.
use Rattle.std.proofs.Common.{◌≡◌, ℕ, true, false, ◌&&◌, IfSome, ◌≤◌, ◌==◌, nat_le, List, [], ◌∷◌, ◌++◌, length, Option, Some, None, Ok, refl, arith}
use Rattle.std.proofs.lemmas.Bool.{le-leb}
use Rattle.auth_message.specs.declared.groups.Paid.{Paid}
use Rattle.auth_message.specs.declared.reversal.ReversalFields.{ReversalFields}
use Rattle.auth_message.specs.Accepted.{AreDigitBytes, IsRequest, IsPresent, IsReversal}
use Rattle.auth_message.specs.Data.{RequestData, PresentData, PaidSizes}
use Rattle.auth_message.specs.Field.{is_fixed}
use Rattle.auth_message.proofs.Again.{RequestSizes, PresentSizes, ReversalSizes}
use Rattle.auth_message.proofs.ReadBack.{IsOther, IsOptional, next_place, fixed_again, some_again, optional_again, any_bytes, digit_bytes}
use Rattle.auth_message.proofs.Spelled.{placed, are_tags, optional_front}
use Rattle.iso_message.specs.declared.icc.IccData.{IccData}
use Rattle.iso_message.specs.declared.front.RequestFront.{RequestFront}
use Rattle.iso_message.specs.declared.front.PresentFront.{PresentFront}
use Rattle.iso_message.specs.declared.front.ReversalFront.{ReversalFront}
use Rattle.iso_message.specs.Items.{icc_items, icc_at, request_items, icc_of, request_in, present_items, present_in, reversal_items, reversal_in}
use Rattle.iso_message.proofs.FrontAgain.{numbers_of}

-- the fields before field 55 of each call
abbrev pub request_front : RequestData → RequestFront
request_front f = record { pan = f.named.pan; t9c = f.paid.t9c; numbers = numbers_of f.paid.t9f02 f.paid.t9f36; acceptor = record { t9f1c = f.named.t9f1c; t5f2a = f.paid.t5f2a }; tdf11 = f.tdf11 }

abbrev pub present_front : PresentData → PresentFront
present_front f = record { pan = f.named.pan; t9c = f.paid.t9c; numbers = numbers_of f.paid.t9f02 f.paid.t9f36; t8a = f.t8a; acceptor = record { t9f1c = f.named.t9f1c; t5f2a = f.paid.t5f2a } }

abbrev pub reversal_front : ReversalFields → ReversalFront
reversal_front f = record { pan = f.pan; numbers = numbers_of f.t9f02 f.t9f36; t8a = f.t8a; acceptor = record { t9f1c = f.t9f1c; t5f2a = f.t5f2a } }

pub request_tags : (f : RequestData) → are_tags (request_items f) ≡ true
request_tags f = optional_front 0x5F34 f.named.t5f34 _ refl refl

pub present_tags : (f : PresentData) → are_tags (present_items f) ≡ true
present_tags f = optional_front 0x5F34 f.named.t5f34 _ refl refl

pub reversal_tags : (f : ReversalFields) → are_tags (reversal_items f) ≡ true
reversal_tags f = optional_front 0x5F34 f.t5f34 _ refl refl

sequence : (value : Option (List ℕ)) → IfSome value (λ v. length v ≡ 1) → IfSome value AreDigitBytes → IsOptional 1 true value
sequence None size digits = tt
sequence (Some value) size digits = digit_bytes 1 value size digits

at_most : (value : List ℕ) (most : ℕ) → length value ≤ most → (nat_le 0 (length value) && nat_le (length value) most) ≡ true
at_most value most small = rw (le-leb 0 (length value) (omega arith), le-leb (length value) most small) refl

-- a field with another tag comes first
headed : (tag other : ℕ) (value : List ℕ) (rest : List (ℕ × List ℕ)) → (other == tag) ≡ false → IsOther tag ((other, value) ∷ rest)
headed tag other value rest differs = record { absent = λ place. rw differs refl; left = λ place. rw differs refl }

pub record IsIcc (icc : IccData) : Type 0 where
  pub t9f03 : is_fixed 6 true icc.t9f03 ≡ true
  pub t9f1a : is_fixed 2 false icc.t9f1a ≡ true
  pub t95 : is_fixed 5 false icc.t95 ≡ true
  pub t9a : is_fixed 3 true icc.t9a ≡ true
  pub t9f37 : is_fixed 4 false icc.t9f37 ≡ true
  pub t82 : is_fixed 2 false icc.t82 ≡ true
  pub t9f36 : is_fixed 2 false icc.t9f36 ≡ true
  pub t9f26 : is_fixed 8 false icc.t9f26 ≡ true

icc_again : (place : ℕ) (icc : IccData) (rest : List (ℕ × List ℕ)) → IsIcc icc → (next : ℕ) × (icc_at (placed place (icc_items icc ++ rest)) ≡ Ok (icc, placed next rest))
unfolding icc_at
icc_again place icc rest is =
    let second = next_place place 0x9F03 icc.t9f03 in
    let third = next_place second 0x9F1A icc.t9f1a in
    let fourth = next_place third 0x95 icc.t95 in
    let fifth = next_place fourth 0x9A icc.t9a in
    let sixth = next_place fifth 0x9F37 icc.t9f37 in
    let seventh = next_place sixth 0x82 icc.t82 in
    let eighth = next_place seventh 0x9F36 icc.t9f36 in (
      next_place eighth 0x9F26 icc.t9f26,
      rw (
        fixed_again 6 true 0x9F03 place icc.t9f03 (_) is.t9f03,
        fixed_again 2 false 0x9F1A second icc.t9f1a (_) is.t9f1a,
        fixed_again 5 false 0x95 third icc.t95 (_) is.t95,
        fixed_again 3 true 0x9A fourth icc.t9a (_) is.t9a,
        fixed_again 4 false 0x9F37 fifth icc.t9f37 (_) is.t9f37,
        fixed_again 2 false 0x82 sixth icc.t82 (_) is.t82,
        fixed_again 2 false 0x9F36 seventh icc.t9f36 (_) is.t9f36,
        fixed_again 8 false 0x9F26 eighth icc.t9f26 (_) is.t9f26,
      ) refl,
    )

-- the items of a payment are of their sizes
icc_is_of : (paid : Paid) → AreDigitBytes paid.t9f03 → AreDigitBytes paid.t9a → PaidSizes paid → IsIcc (icc_of paid)
icc_is_of paid other date sizes = record {
  t9f03 = digit_bytes 6 paid.t9f03 sizes.1 other;
  t9f1a = any_bytes 2 paid.t9f1a sizes.2;
  t95 = any_bytes 5 paid.t95 sizes.3;
  t9a = digit_bytes 3 paid.t9a sizes.5 date;
  t9f37 = any_bytes 4 paid.t9f37 sizes.7;
  t82 = any_bytes 2 paid.t82 sizes.8;
  t9f36 = any_bytes 2 paid.t9f36 sizes.9;
  t9f26 = any_bytes 8 paid.t9f26 sizes.10;
}

pub request_in_again : (f : RequestData) → IsRequest f → RequestSizes f → request_in (request_front f) (placed 0 (request_items f)) ≡ Ok f
unfolding request_in
request_in_again f is sizes =
    let icc : IccData = icc_of f.paid in
    let icc_is = icc_is_of f.paid is.other_amount is.date sizes.2 in
    let last : List (ℕ × List ℕ) = (0x9F10, f.t9f10) ∷ [] in
    let middle : List (ℕ × List ℕ) = icc_items icc ++ last in
    let number = optional_again 1 true 0x5F34 0 f.named.t5f34 ((0x5F24, f.t5f24) ∷ middle) (sequence f.named.t5f34 sizes.0.1 is.sequence_number) (headed 0x5F34 0x5F24 f.t5f24 middle refl) in
    let expiry = fixed_again 3 true 0x5F24 number.0 f.t5f24 middle (digit_bytes 3 f.t5f24 sizes.1 is.expiry) in
    let found = icc_again (next_place number.0 0x5F24 f.t5f24) icc last icc_is in
    let issuer = some_again 0 32 0x9F10 found.0 f.t9f10 [] (at_most f.t9f10 32 is.issuer_data) in
    rw (number.1, expiry, found.1, issuer) refl

pub present_in_again : (f : PresentData) → IsPresent f → PresentSizes f → present_in (present_front f) (placed 0 (present_items f)) ≡ Ok f
unfolding present_in
present_in_again f is sizes =
    let icc : IccData = icc_of f.paid in
    let icc_is = icc_is_of f.paid is.other_amount is.date sizes.1 in
    let last : List (ℕ × List ℕ) = (0x9F10, f.t9f10) ∷ [] in
    let number = optional_again 1 true 0x5F34 0 f.named.t5f34 (icc_items icc ++ last) (sequence f.named.t5f34 sizes.0.1 is.sequence_number) (headed 0x5F34 0x9F03 f.paid.t9f03 _ refl) in
    let found = icc_again number.0 icc last icc_is in
    let issuer = some_again 0 32 0x9F10 found.0 f.t9f10 [] (at_most f.t9f10 32 is.issuer_data) in
    rw (number.1, found.1, issuer) refl

pub reversal_in_again : (f : ReversalFields) → IsReversal f → ReversalSizes f → reversal_in (reversal_front f) (placed 0 (reversal_items f)) ≡ Ok f
unfolding reversal_in
reversal_in_again f is sizes =
    let last : List (ℕ × List ℕ) = (0x9F36, f.t9f36) ∷ [] in
    let number = optional_again 1 true 0x5F34 0 f.t5f34 last (sequence f.t5f34 sizes.1 is.sequence_number) (headed 0x5F34 0x9F36 f.t9f36 [] refl) in
    let counter = fixed_again 2 false 0x9F36 number.0 f.t9f36 [] (any_bytes 2 f.t9f36 sizes.2) in
    rw (number.1, counter) refl
