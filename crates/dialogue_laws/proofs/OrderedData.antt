-- The data of script commands as the card reads them: the block of a new PIN, and amounts.
use Rattle.std.proofs.Common.{◌≡◌, ℕ, zero, suc, ◌+◌, ◌-◌, ◌*◌, ◌/◌, ◌%◌, ◌<◌, ◌≤◌, ◌&&◌, nat_le, true, List, [], ◌∷◌, ◌++◌, length, take, drop, get_or, replicate, slice_index, Some, refl, ap, ◌∙◌, arith, length-append}
use Rattle.std.specs.List.{All, list_all}
use Rattle.std.specs.Str.{bytes_eq}
use Rattle.std.proofs.lemmas.Bool.{le-leb, leb-true, and_parts, and_from}
use Rattle.std.proofs.lemmas.List.{take_at, length-replicate}
use Rattle.std.proofs.lemmas.List.Elements.{All-cons, All-append, All-replicate}
use Rattle.std.proofs.lemmas.List.Sums.{list_all-from_AllPass}
use Rattle.std.proofs.lemmas.Slice.Eq.{bytes_eq-Decides}
use Rattle.card_cryptogram.specs.ScriptHeaders.{limit_to}
use Rattle.card_files.specs.AppRules.{spelled_pin, is_plain_block}
use Rattle.card_state.specs.declared.decision.Scripted.TheVariants.{Sum}
use Rattle.emv_dict.proofs.HexDigits.{nibbles-packed, length-packed}
use Rattle.emv_dict.specs.Bcd.{has_digits, number_in, numeric, two_digits}
use Rattle.emv_dict.specs.Digits.{AllDecimal, HasPinLength, is_pin_length}
use Rattle.emv_dict.specs.Nibbles.{nibbles, packed, is_decimal}
use Rattle.emv_dict.specs.Settings.{most_amount}
use Rattle.pin_block.specs.Block.{block_digits, block_of}
use Rattle.triple_des.proofs.Undone.{IsBlock}

-- ---- a PIN's block

most_pin : (pin : List ℕ) → HasPinLength pin → length pin ≤ 12
most_pin pin has = leb-true (length pin) 12 (and_parts (nat_le 4 (length pin)) (nat_le (length pin) 12) has).1

digits_sized : (pin : List ℕ) → HasPinLength pin → length (block_digits 2 pin) ≡ 16
digits_sized pin has =
    let fill : List ℕ = replicate (14 - length pin) 15 in
    let body : length (pin ++ fill) ≡ length pin + length fill = length-append pin fill in
    let filler : length fill ≡ 14 - length pin = length-replicate (14 - length pin) 15 in
    let most : length pin ≤ 12 = most_pin pin has in
    let whole : length (pin ++ fill) ≡ 14 = omega arith in
    ap (λ (n : ℕ). suc (suc n)) whole

digits_small : (pin : List ℕ) → HasPinLength pin → AllDecimal pin → All (λ d. d < 16) (block_digits 2 pin)
digits_small pin has decimal =
    let Small : ℕ → Type 0 = λ d. d < 16 in
    let most : length pin ≤ 12 = most_pin pin has in
    let count : length pin < 16 = omega arith in
    let pin_small : All Small pin = λ k d within. (let low : get_or pin k d ≤ 9 = decimal k d within in omega arith) in
    All-cons Small 2 (length pin ∷ pin ++ replicate (14 - length pin) 15) (omega arith)
    (All-cons Small (length pin) (pin ++ replicate (14 - length pin) 15) count
    (All-append Small pin (replicate (14 - length pin) 15) pin_small (All-replicate Small (14 - length pin) 15 (omega arith))))

digits_again : (pin : List ℕ) → HasPinLength pin → AllDecimal pin → nibbles (block_of 2 pin) ≡ block_digits 2 pin
unfolding block_of
digits_again pin has decimal = nibbles-packed (block_digits 2 pin) 8 (digits_sized pin has) (digits_small pin has decimal)

pin_again : (pin : List ℕ) → HasPinLength pin → AllDecimal pin → spelled_pin (block_of 2 pin) ≡ pin
pin_again pin has decimal =
    ap (λ (digits : List ℕ). take (slice_index digits 1) (drop 2 digits)) (digits_again pin has decimal)
    ∙ take_at pin (replicate (14 - length pin) 15) (length pin) refl

-- the card takes it for a PIN's block
pub block_passes : (pin : List ℕ) → HasPinLength pin → AllDecimal pin → is_plain_block (block_of 2 pin) ≡ true
block_passes pin has decimal =
    let all : list_all is_decimal pin ≡ true = list_all-from_AllPass is_decimal pin (λ k d within. le-leb (get_or pin k d) 9 (decimal k d within)) in
    let equal : bytes_eq (block_of 2 pin) (block_of 2 pin) ≡ true = (bytes_eq-Decides (block_of 2 pin) (block_of 2 pin)).1 refl in
    ap (λ (p : List ℕ). is_pin_length (length p) && (list_all is_decimal p && bytes_eq (block_of 2 p) (block_of 2 pin))) (pin_again pin has decimal)
    ∙ and_from (is_pin_length (length pin)) (list_all is_decimal pin && bytes_eq (block_of 2 pin) (block_of 2 pin)) has
    (and_from (list_all is_decimal pin) (bytes_eq (block_of 2 pin) (block_of 2 pin)) all equal)

packed_small : (ns : List ℕ) → All (λ d. d < 16) ns → (i : ℕ) → get_or (packed ns) i 0 < 256
unfolding packed
packed_small [] small i = omega arith
packed_small (h ∷ []) small i = omega arith
packed_small (h ∷ l ∷ ns) small zero =
    let high : h < 16 = small 0 0 (omega arith) in
    let low : l < 16 = small 1 0 (omega arith) in
    omega arith
packed_small (h ∷ l ∷ ns) small (suc i) = packed_small ns (λ k d within. small (suc (suc k)) d (omega arith)) i

-- eight bytes
pub pin_block : (pin : List ℕ) → HasPinLength pin → AllDecimal pin → IsBlock (block_of 2 pin)
unfolding block_of
pin_block pin has decimal = record {
  long = length-packed (block_digits 2 pin) 8 (digits_sized pin has);
  small = packed_small (block_digits 2 pin) (digits_small pin has decimal);
}

-- ---- an amount

bytes_of_two : (x : ℕ) → x < 100 → has_digits (two_digits x) ≡ true
bytes_of_two x small =
    and_from (is_decimal (two_digits x / 16)) (is_decimal (two_digits x % 16)) (le-leb (two_digits x / 16) 9 (omega arith)) (le-leb (two_digits x % 16) 9 (omega arith))

two_again : (x : ℕ) → x < 100 → two_digits x / 16 * 10 + two_digits x % 16 ≡ x
two_again x small = omega arith

-- its six bytes, the last one first
abbrev last_two : ℕ → ℕ
last_two n = two_digits (n % 100)

all_digits : (n : ℕ) → list_all has_digits (numeric 6 n) ≡ true
unfolding numeric
all_digits n =
    let here : (m : ℕ) → has_digits (last_two m) ≡ true = λ m. bytes_of_two (m % 100) (omega arith) in
    rw (here (n / 100 / 100 / 100 / 100 / 100), here (n / 100 / 100 / 100 / 100), here (n / 100 / 100 / 100), here (n / 100 / 100), here (n / 100), here n) refl

number_again : (n : ℕ) → n ≤ most_amount → number_in (numeric 6 n) ≡ n
unfolding number_in nibbles numeric
number_again n fits =
    let value : (m : ℕ) → last_two m / 16 * 10 + last_two m % 16 ≡ m % 100 = λ m. two_again (m % 100) (omega arith) in
    let a = value (n / 100 / 100 / 100 / 100 / 100) in
    let b = value (n / 100 / 100 / 100 / 100) in
    let c = value (n / 100 / 100 / 100) in
    let d = value (n / 100 / 100) in
    let e = value (n / 100) in
    let f = value n in
    omega arith

-- the card reads it as it is
pub amount_again : (n : ℕ) → n ≤ most_amount → limit_to (numeric 6 n) ≡ Some (Sum n)
amount_again n fits = rw (all_digits n, number_again n fits) refl
