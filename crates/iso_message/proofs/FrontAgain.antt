-- The fields before field 55 are read back.
use Rattle.std.proofs.Common.{◌≡◌, ℕ, true, ◌&&◌, ◌+◌, ◌*◌, ◌/◌, ◌%◌, ◌≤◌, nat_le, List, [], ◌∷◌, ◌++◌, length, Some, Ok, refl, ap, ◌∙◌, arith, length-append, slice_index}
use Rattle.ber_tlv.proofs.ReadAgain.{both}
use Rattle.emv_dict.specs.Bcd.{has_digits}
use Rattle.emv_dict.specs.Digits.{AllDecimal}
use Rattle.emv_dict.specs.Nibbles.{nibbles, packed}
use Rattle.emv_dict.proofs.HexDigits.{length-nibbles}
use Rattle.emv_dict.specs.Pan.{HasPanLength, is_pan_length}
use Rattle.emv_dict.specs.Settings.{is_code}
use Rattle.auth_message.specs.Accepted.{AreDigitBytes}
use Rattle.iso_message.specs.declared.front.Numbers.{Numbers}
use Rattle.iso_message.specs.Front.{account_field_at, processing_at, numbers_at, acceptor_at, pin_at, tied}
use Rattle.iso_message.specs.Spelling.{account_number_field, processing_field, amount_field, audit_field, reference_field, terminal_field, currency_field}
use Rattle.iso_message.specs.Text.{digit_characters, are_numerals, zeros, counter_digits, decimal_digits}
use Rattle.iso_message.proofs.Numerals.{at_most, text_numerals, text_values, text_length, decimals, decimals_length, nibbles_decimal, packed_text, all_decimal}
use Rattle.iso_message.proofs.Parts.{left, same_bytes, part_again, digits_again, two_counted}

-- a step gives this value, and leaves this
abbrev pub after_account : ℕ → List ℕ → ℕ
after_account place pan = (place + 2) + length (digit_characters pan)

pub account_again : (place : ℕ) (pan rest : List ℕ) → HasPanLength pan → AllDecimal pan → account_field_at (left place ((account_number_field pan).1 ++ rest)) ≡ Ok (pan, left (after_account place pan) rest)
unfolding account_field_at
account_again place pan rest sized decimal =
    let all = all_decimal pan decimal in
    let parts = both (nat_le 13 (length pan)) (nat_le (length pan) 19) sized in
    let few : length pan ≤ 19 = at_most (length pan) 19 parts.1 in
    let same : length (digit_characters pan) ≡ length pan = text_length pan in
    let right : is_pan_length (length (digit_characters pan)) ≡ true = ap is_pan_length same ∙ sized in
    rw (two_counted 2 place (digit_characters pan) rest (omega arith), text_numerals pan all, right, text_values pan all) refl

-- one byte of two digits, and two of a currency
one_byte : (byte : ℕ) → has_digits byte ≡ true → (48 + byte / 16) % 16 * 16 + (48 + byte % 16) % 16 ≡ byte
one_byte byte is =
    let halves = both (nat_le (byte / 16) 9) (nat_le (byte % 16) 9) is in
    let high : byte / 16 ≤ 9 = at_most (byte / 16) 9 halves.0 in
    let low : byte % 16 ≤ 9 = at_most (byte % 16) 9 halves.1 in
    let first : (48 + byte / 16) % 16 ≡ byte / 16 = omega arith in
    let second : (48 + byte % 16) % 16 ≡ byte % 16 = omega arith in
    omega arith

two_decimal : (byte : ℕ) → has_digits byte ≡ true → (nat_le (byte / 16) 9 && (nat_le (byte % 16) 9 && true)) ≡ true
two_decimal byte is =
    let halves = both (nat_le (byte / 16) 9) (nat_le (byte % 16) 9) is in
    rw (halves.0, halves.1) refl

processing_one : (place byte : ℕ) (rest : List ℕ) → has_digits byte ≡ true → processing_at (left place ((processing_field (byte ∷ [])).1 ++ rest)) ≡ Ok (byte ∷ [], left (place + 6) rest)
unfolding processing_at nibbles packed
processing_one place byte rest is =
    let front : List ℕ = (48 + byte / 16) ∷ (48 + byte % 16) ∷ 48 ∷ 48 ∷ 48 ∷ 48 ∷ [] in
    let decimal : are_numerals (digit_characters (byte / 16 ∷ byte % 16 ∷ 0 ∷ 0 ∷ 0 ∷ 0 ∷ [])) ≡ true = text_numerals (byte / 16 ∷ byte % 16 ∷ 0 ∷ 0 ∷ 0 ∷ 0 ∷ []) (two_decimal byte is) in
    rw (digits_again 3 place front rest 6 refl decimal) (ap (λ (b : ℕ). Ok (b ∷ [], left (place + 6) rest)) (one_byte byte is))

pub processing_again : (place : ℕ) (t9c rest : List ℕ) → length t9c ≡ 1 → AreDigitBytes t9c → processing_at (left place ((processing_field t9c).1 ++ rest)) ≡ Ok (t9c, left (place + 6) rest)
processing_again place [] rest size digits = absurd (omega arith)
processing_again place (byte ∷ []) rest size digits = processing_one place byte rest (both (has_digits byte) true digits).0
processing_again place (byte ∷ other ∷ others) rest size digits = absurd (omega arith)

abbrev pub numbers_of : List ℕ → List ℕ → Numbers
numbers_of t9f02 t9f36 = record { t9f02 = t9f02; audit = counter_digits t9f36; reference = zeros 6 ++ counter_digits t9f36 }

counter_length : (t9f36 : List ℕ) → length (counter_digits t9f36) ≡ 6
unfolding counter_digits
counter_length t9f36 = let number = slice_index t9f36 0 * 256 + slice_index t9f36 1 in text_length (decimal_digits 6 number) ∙ decimals_length 6 number

counter_numerals : (t9f36 : List ℕ) → are_numerals (counter_digits t9f36) ≡ true
unfolding counter_digits
counter_numerals t9f36 = let number = slice_index t9f36 0 * 256 + slice_index t9f36 1 in text_numerals (decimal_digits 6 number) (decimals 6 number)

pub numbers_again :
    (place : ℕ) (t9f02 t9f36 rest : List ℕ) → length t9f02 ≡ 6 → AreDigitBytes t9f02
    → numbers_at (left place ((amount_field t9f02).1 ++ ((audit_field t9f36).1 ++ ((reference_field t9f36).1 ++ rest)))) ≡ Ok (numbers_of t9f02 t9f36, left (((place + 12) + 6) + 12) rest)
unfolding numbers_at
numbers_again place t9f02 t9f36 rest size digits =
    let amount = digit_characters (nibbles t9f02) in
    let six = counter_digits t9f36 in
    let twelve : length amount ≡ 12 = text_length (nibbles t9f02) ∙ length-nibbles t9f02 ∙ omega arith in
    let last : length (zeros 6 ++ six) ≡ 12 = omega (arith, length-append (zeros 6) six, counter_length t9f36) in
    rw (
      digits_again 4 place amount (six ++ ((zeros 6 ++ six) ++ rest)) 12 twelve (text_numerals (nibbles t9f02) (nibbles_decimal t9f02 digits)),
      digits_again 11 (place + 12) six ((zeros 6 ++ six) ++ rest) 6 (counter_length t9f36) (counter_numerals t9f36),
      part_again ((place + 12) + 6) ((place + 12) + 6) (zeros 6 ++ six) rest 12 last,
      packed_text t9f02 digits,
    ) refl

acceptor_two :
    (place : ℕ) (t9f1c : List ℕ) (a b : ℕ) (rest : List ℕ) → length t9f1c ≡ 8 → is_code (a ∷ b ∷ []) ≡ true
    → acceptor_at (left place ((terminal_field t9f1c).1 ++ ((currency_field (a ∷ b ∷ [])).1 ++ rest))) ≡ Ok (record { t9f1c = t9f1c; t5f2a = a ∷ b ∷ [] }, left ((place + 8) + 3) rest)
unfolding acceptor_at nibbles packed
acceptor_two place t9f1c a b rest size code =
    let parts = both (nat_le a 9) (has_digits b) code in
    let halves = both (nat_le (b / 16) 9) (nat_le (b % 16) 9) parts.1 in
    let small : a ≤ 9 = at_most a 9 parts.0 in
    let same : a % 16 ≡ a = omega arith in
    let least : nat_le (a % 16) 9 ≡ true = ap (λ n. nat_le n 9) same ∙ parts.0 in
    let front : List ℕ = (48 + a % 16) ∷ (48 + b / 16) ∷ (48 + b % 16) ∷ [] in
    let all : are_numerals (digit_characters (a % 16 ∷ b / 16 ∷ b % 16 ∷ [])) ≡ true = text_numerals (a % 16 ∷ b / 16 ∷ b % 16 ∷ []) (rw (least, halves.0, halves.1) refl) in
    let first : 0 * 16 + (48 + a % 16) % 16 ≡ a = omega arith in
    rw (part_again place place t9f1c (front ++ rest) 8 size, digits_again 49 (place + 8) front rest 3 refl all)
    (ap (λ (n : ℕ). Ok (record { t9f1c = t9f1c; t5f2a = n ∷ ((48 + b / 16) % 16 * 16 + (48 + b % 16) % 16) ∷ [] }, left ((place + 8) + 3) rest)) first
    ∙ ap (λ (n : ℕ). Ok (record { t9f1c = t9f1c; t5f2a = a ∷ n ∷ [] }, left ((place + 8) + 3) rest)) (one_byte b parts.1))

pub acceptor_again :
    (place : ℕ) (t9f1c t5f2a rest : List ℕ) → length t9f1c ≡ 8 → length t5f2a ≡ 2 → is_code t5f2a ≡ true
    → acceptor_at (left place ((terminal_field t9f1c).1 ++ ((currency_field t5f2a).1 ++ rest))) ≡ Ok (record { t9f1c = t9f1c; t5f2a = t5f2a }, left ((place + 8) + 3) rest)
acceptor_again place t9f1c [] rest size two code = absurd (omega arith)
acceptor_again place t9f1c (a ∷ []) rest size two code = absurd (omega arith)
acceptor_again place t9f1c (a ∷ b ∷ []) rest size two code = acceptor_two place t9f1c a b rest size code
acceptor_again place t9f1c (a ∷ b ∷ c ∷ others) rest size two code = absurd (omega arith)

pub pin_again : (place : ℕ) (block rest : List ℕ) → length block ≡ 8 → pin_at true (left place (block ++ rest)) ≡ Ok (Some block, left (place + 8) rest)
unfolding pin_at
pin_again place block rest size = rw (part_again place place block rest 8 size) refl

pub tied_again : (t9f02 t9f36 : List ℕ) → tied (numbers_of t9f02 t9f36) t9f36 ≡ Ok tt
unfolding tied
tied_again t9f02 t9f36 = rw (same_bytes (counter_digits t9f36)) refl
