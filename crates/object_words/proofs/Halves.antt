-- Half bytes from a place on.
use Rattle.std.proofs.Common.{◌≡◌, ℕ, suc, ◌+◌, ◌-◌, ◌<◌, ◌≤◌, ◌++◌, nat_le, true, false, List, [], cond, length, get_or, drop, ap, ◌∙◌, refl, arith}
use Rattle.std.specs.List.{flat_map, range_with_len}
use Rattle.std.proofs.lemmas.List.{drop_all}
use Rattle.emv_dict.specs.Nibbles.{nibbles}
use Rattle.report_lines.specs.Pieces.{Piece, number}
use Rattle.value_words.proofs.Places.{from_place}
use Rattle.object_words.specs.Tracks.{leading_digits, half_digits}

-- one digit more
pub leading-next : (halves : List ℕ) (place : ℕ) → place < length halves → nat_le (get_or halves place 0) 9 ≡ true
    → leading_digits (drop place halves) ≡ suc (leading_digits (drop (place + 1) halves))
unfolding leading_digits
leading-next halves place within digit =
    ap leading_digits (from_place halves place within) ∙ ap (λ b. cond b (suc (leading_digits (drop (place + 1) halves))) 0) digit

-- none here
pub leading-none : (halves : List ℕ) (place : ℕ) → place < length halves → nat_le (get_or halves place 0) 9 ≡ false → leading_digits (drop place halves) ≡ 0
unfolding leading_digits
leading-none halves place within other =
    ap leading_digits (from_place halves place within) ∙ ap (λ b. cond b (suc (leading_digits (drop (place + 1) halves))) 0) other

pub leading-end : (halves : List ℕ) (place : ℕ) → length halves ≤ place → leading_digits (drop place halves) ≡ 0
unfolding leading_digits
leading-end halves place past = ap leading_digits (drop_all place halves past)

-- the digit of a place, and those behind it
pub digits-next : (value : List ℕ) (place n : ℕ) → place < n
    → half_digits value place (n - place) ≡ number (get_or (nibbles value) place 0) ++ half_digits value (place + 1) (n - (place + 1))
unfolding half_digits
digits-next value place n within =
    let more : n - place ≡ suc (n - (place + 1)) = omega arith in
    ap (λ (k : ℕ). flat_map (λ p. number (get_or (nibbles value) p 0)) (range_with_len place k)) more

pub digits-end : (value : List ℕ) (place n : ℕ) → n ≤ place → half_digits value place (n - place) ≡ []
unfolding half_digits
digits-end value place n past =
    let none : n - place ≡ 0 = omega arith in
    ap (λ (k : ℕ). flat_map (λ p. number (get_or (nibbles value) p 0)) (range_with_len place k)) none
