-- Bytes from a place on: the first, and those behind it.
use Rattle.std.proofs.Common.{◌≡◌, ℕ, ◌+◌, ◌/◌, ◌%◌, ◌<◌, ◌≤◌, Bool, true, false, List, [], ◌∷◌, ◌++◌, Option, Some, None, length, get_or, drop, ap, ◌∙◌, add-one, drop-cons, refl}
use Rattle.std.specs.List.{flat_map}
use Rattle.std.proofs.lemmas.List.{drop_all}
use Rattle.report_lines.specs.Pieces.{Piece}
use Rattle.value_words.specs.Digits.{after_byte, filled_if, are_filled, half_count, digit_count}

-- the bytes from a place on: the first, and those behind it
pub from_place : (value : List ℕ) (place : ℕ) → place < length value → drop place value ≡ get_or value place 0 ∷ drop (place + 1) value
from_place value place within = rw (add-one, drop-cons value place 0) refl

-- whether what stands from a place on are digits, and filler behind them
pub filled-next : (filler behind : Bool) (value : List ℕ) (place : ℕ) → place < length value → after_byte filler (get_or value place 0) ≡ Some behind
    → are_filled filler (drop place value) ≡ are_filled behind (drop (place + 1) value)
unfolding are_filled
filled-next filler behind value place within is =
    ap (are_filled filler) (from_place value place within) ∙ ap (λ (f : Option Bool). filled_if f (λ b. are_filled b (drop (place + 1) value))) is

pub filled-none : (filler : Bool) (value : List ℕ) (place : ℕ) → place < length value → after_byte filler (get_or value place 0) ≡ None → are_filled filler (drop place value) ≡ false
unfolding are_filled
filled-none filler value place within is =
    ap (are_filled filler) (from_place value place within) ∙ ap (λ (f : Option Bool). filled_if f (λ b. are_filled b (drop (place + 1) value))) is

pub filled-end : (filler : Bool) (value : List ℕ) (place : ℕ) → length value ≤ place → are_filled filler (drop place value) ≡ true
unfolding are_filled
filled-end filler value place past = ap (are_filled filler) (drop_all place value past)

-- how many of the half bytes from a place on are no filler
pub count-next : (value : List ℕ) (place : ℕ) → place < length value
    → digit_count (drop place value) ≡ half_count (get_or value place 0 / 16) + half_count (get_or value place 0 % 16) + digit_count (drop (place + 1) value)
unfolding digit_count
count-next value place within = ap digit_count (from_place value place within)

pub count-end : (value : List ℕ) (place : ℕ) → length value ≤ place → digit_count (drop place value) ≡ 0
unfolding digit_count
count-end value place past = ap digit_count (drop_all place value past)

-- what is told of each byte from a place on
pub each-next : (words : ℕ → List Piece) (value : List ℕ) (place : ℕ) → place < length value
    → flat_map words (drop place value) ≡ words (get_or value place 0) ++ flat_map words (drop (place + 1) value)
each-next words value place within = ap (flat_map words) (from_place value place within)

pub each-end : (words : ℕ → List Piece) (value : List ℕ) (place : ℕ) → length value ≤ place → flat_map words (drop place value) ≡ []
each-end words value place past = ap (flat_map words) (drop_all place value past)
