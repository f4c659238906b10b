-- Fields that are spelled are read back.
use Rattle.std.proofs.Common.{◌≡◌, ℕ, Bool, true, false, ◌&&◌, IfSome, ◌+◌, ◌==◌, nat_le, List, ◌∷◌, ◌++◌, length, Option, Some, None, Ok, refl, arith}
use Rattle.ber_tlv.specs.Written.{written}
use Rattle.emv_dict.specs.Pan.{pan_of, pan_field}
use Rattle.auth_message.specs.declared.groups.Named.{Named}
use Rattle.auth_message.specs.declared.groups.Paid.{Paid}
use Rattle.auth_message.specs.Accepted.{AreDigitBytes}
use Rattle.auth_message.specs.Field.{is_fixed, fixed_value, some_value}
use Rattle.auth_message.specs.Fields.{field_given, behind_field, required_field, fixed_at, some_at, pan_at, fixed_if_there}
use Rattle.auth_message.specs.Groups.{named_at, paid_at}
use Rattle.auth_message.specs.Spelling.{optional, named_fields, paid_fields}
use Rattle.auth_message.proofs.Spelled.{placed}

itself : (n : ℕ) → (n == n) ≡ true
itself n = grind arith

-- a value of its length, whose bytes are digits where they have to be
pub any_bytes : (count : ℕ) (value : List ℕ) → length value ≡ count → is_fixed count false value ≡ true
any_bytes count value size = rw (size, itself count) refl

pub digit_bytes : (count : ℕ) (value : List ℕ) → length value ≡ count → AreDigitBytes value → is_fixed count true value ≡ true
digit_bytes count value size digits = rw (size, itself count) digits

-- where the items begin that stand behind this field
pub next_place : ℕ → ℕ → List ℕ → ℕ
next_place place tag value = place + length (written tag value)

pub fixed_again : (count : ℕ) (numeric : Bool) (tag place : ℕ) (value : List ℕ) (rest : List (ℕ × List ℕ)) → is_fixed count numeric value ≡ true
    → fixed_at count numeric tag (placed place ((tag, value) ∷ rest)) ≡ Ok (value, placed (next_place place tag value) rest)
unfolding fixed_at required_field fixed_value next_place
fixed_again count numeric tag place value rest is = rw (itself tag, is) refl

pub some_again : (least most tag place : ℕ) (value : List ℕ) (rest : List (ℕ × List ℕ)) → (nat_le least (length value) && nat_le (length value) most) ≡ true
    → some_at least most tag (placed place ((tag, value) ∷ rest)) ≡ Ok (value, placed (next_place place tag value) rest)
unfolding some_at required_field some_value next_place
some_again least most tag place value rest is = rw (itself tag, is) refl

pub pan_again : (place : ℕ) (pan : List ℕ) (rest : List (ℕ × List ℕ)) → pan_of (pan_field pan) ≡ Ok pan
    → pan_at (placed place ((0x5A, pan_field pan) ∷ rest)) ≡ Ok (pan, placed (next_place place 0x5A (pan_field pan)) rest)
unfolding pan_at required_field next_place
pan_again place pan rest again = rw again refl

-- no field of this tag comes first
pub record IsOther (tag : ℕ) (rest : List (ℕ × List ℕ)) : Type 0 where
  pub absent : (place : ℕ) → field_given tag (placed place rest) ≡ None
  pub left : (place : ℕ) → behind_field tag (placed place rest) ≡ placed place rest

abbrev pub IsOptional : ℕ → Bool → Option (List ℕ) → Type 0
IsOptional count numeric value = IfSome value (λ v. is_fixed count numeric v ≡ true)

pub optional_again : (count : ℕ) (numeric : Bool) (tag place : ℕ) (value : Option (List ℕ)) (rest : List (ℕ × List ℕ)) → IsOptional count numeric value → IsOther tag rest
    → (next : ℕ) × (fixed_if_there count numeric tag (placed place (optional tag value ++ rest)) ≡ Ok (value, placed next rest))
unfolding fixed_if_there fixed_value
optional_again count numeric tag place None rest is other = (place, rw (other.absent place, other.left place) refl)
optional_again count numeric tag place (Some value) rest is other = (place + length (written tag value), rw (itself tag, is) refl)

pub record IsNamed (named : Named) : Type 0 where
  pub terminal : length named.t9f1c ≡ 8
  pub account : pan_of (pan_field named.pan) ≡ Ok named.pan
  pub sequence : IsOptional 1 true named.t5f34

pub named_again : (place : ℕ) (named : Named) (rest : List (ℕ × List ℕ)) → IsNamed named → IsOther 0x5F34 rest
    → (next : ℕ) × (named_at (placed place (named_fields named ++ rest)) ≡ Ok (named, placed next rest))
unfolding named_at
named_again place named rest is other =
    let terminal = fixed_again 8 false 0x9F1C place named.t9f1c ((0x5A, pan_field named.pan) ∷ (optional 0x5F34 named.t5f34 ++ rest)) (any_bytes 8 named.t9f1c is.terminal) in
    let first = next_place place 0x9F1C named.t9f1c in
    let account = pan_again first named.pan (optional 0x5F34 named.t5f34 ++ rest) is.account in
    let second = next_place first 0x5A (pan_field named.pan) in
    let sequence = optional_again 1 true 0x5F34 second named.t5f34 rest is.sequence other in
    (sequence.0, rw (terminal, account, sequence.1) refl)

pub record IsPaid (paid : Paid) : Type 0 where
  pub t9f02 : is_fixed 6 true paid.t9f02 ≡ true
  pub t9f03 : is_fixed 6 true paid.t9f03 ≡ true
  pub t9f1a : is_fixed 2 false paid.t9f1a ≡ true
  pub t95 : is_fixed 5 false paid.t95 ≡ true
  pub t5f2a : is_fixed 2 true paid.t5f2a ≡ true
  pub t9a : is_fixed 3 true paid.t9a ≡ true
  pub t9c : is_fixed 1 false paid.t9c ≡ true
  pub t9f37 : is_fixed 4 false paid.t9f37 ≡ true
  pub t82 : is_fixed 2 false paid.t82 ≡ true
  pub t9f36 : is_fixed 2 false paid.t9f36 ≡ true
  pub t9f26 : is_fixed 8 false paid.t9f26 ≡ true

pub paid_again : (place : ℕ) (paid : Paid) (rest : List (ℕ × List ℕ)) → IsPaid paid → (next : ℕ) × (paid_at (placed place (paid_fields paid ++ rest)) ≡ Ok (paid, placed next rest))
unfolding paid_at
paid_again place paid rest is =
    let second = next_place place 0x9F02 paid.t9f02 in
    let third = next_place second 0x9F03 paid.t9f03 in
    let fourth = next_place third 0x9F1A paid.t9f1a in
    let fifth = next_place fourth 0x95 paid.t95 in
    let sixth = next_place fifth 0x5F2A paid.t5f2a in
    let seventh = next_place sixth 0x9A paid.t9a in
    let eighth = next_place seventh 0x9C paid.t9c in
    let ninth = next_place eighth 0x9F37 paid.t9f37 in
    let tenth = next_place ninth 0x82 paid.t82 in
    let eleventh = next_place tenth 0x9F36 paid.t9f36 in (
      next_place eleventh 0x9F26 paid.t9f26,
      rw (
        fixed_again 6 true 0x9F02 place paid.t9f02 (_) is.t9f02,
        fixed_again 6 true 0x9F03 second paid.t9f03 (_) is.t9f03,
        fixed_again 2 false 0x9F1A third paid.t9f1a (_) is.t9f1a,
        fixed_again 5 false 0x95 fourth paid.t95 (_) is.t95,
        fixed_again 2 true 0x5F2A fifth paid.t5f2a (_) is.t5f2a,
        fixed_again 3 true 0x9A sixth paid.t9a (_) is.t9a,
        fixed_again 1 false 0x9C seventh paid.t9c (_) is.t9c,
        fixed_again 4 false 0x9F37 eighth paid.t9f37 (_) is.t9f37,
        fixed_again 2 false 0x82 ninth paid.t82 (_) is.t82,
        fixed_again 2 false 0x9F36 tenth paid.t9f36 (_) is.t9f36,
        fixed_again 8 false 0x9F26 eleventh paid.t9f26 (_) is.t9f26,
      ) refl,
    )
