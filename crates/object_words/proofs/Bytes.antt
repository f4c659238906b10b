-- Bytes that are told one by one.
use Rattle.std.proofs.Common.{◌≡◌, ℕ, ◌+◌, ◌<◌, ◌≤◌, List, [], ◌++◌, length, get_or, drop, ap}
use Rattle.std.proofs.lemmas.List.{drop_all}
use Rattle.object_words.specs.Bits.{bit_numbers_from, byte_bits, bit_words_from, byte_words}
use Rattle.value_words.proofs.Places.{from_place}

pub numbers_next : (value : List ℕ) (place : ℕ) → place < length value
    → bit_numbers_from (place + 1) (drop place value) ≡ byte_bits (place + 1) (get_or value place 0) ++ bit_numbers_from (place + 1 + 1) (drop (place + 1) value)
numbers_next value place within = ap (bit_numbers_from (place + 1)) (from_place value place within)

pub numbers_end : (value : List ℕ) (place : ℕ) → length value ≤ place → bit_numbers_from (place + 1) (drop place value) ≡ []
numbers_end value place past = ap (bit_numbers_from (place + 1)) (drop_all place value past)

pub words_next : (table references : List (ℕ × List ℕ)) (value : List ℕ) (place : ℕ) → place < length value
    → bit_words_from table references (place + 1) (drop place value)
    ≡ byte_words table references (place + 1) (get_or value place 0) ++ bit_words_from table references (place + 1 + 1) (drop (place + 1) value)
words_next table references value place within = ap (bit_words_from table references (place + 1)) (from_place value place within)

pub words_end : (table references : List (ℕ × List ℕ)) (value : List ℕ) (place : ℕ) → length value ≤ place → bit_words_from table references (place + 1) (drop place value) ≡ []
words_end table references value place past = ap (bit_words_from table references (place + 1)) (drop_all place value past)
