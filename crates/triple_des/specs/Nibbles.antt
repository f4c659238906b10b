-- Bits that are picked from four bits of a word at a time.
use Rattle.std.specs.Prelude.{◌≡◌, ℕ, List, [], ◌-◌, ◌*◌, ◌^◌, ◌<◌, length, slice_index, slice_index_or}
use Rattle.triple_des.specs.Bits.{bits, pick}

-- a table for each four bits of a word, the highest first, has for each of their values the bits that the
-- places name of a word with these four and no others
abbrev pub AreTables : List ℕ → List (List ℕ) → Type 0
AreTables places tables =
    (k four : ℕ) → k < length tables → four < 16
    → bits (length places) (slice_index (slice_index_or tables (length tables - 1 - k) []) four)
    ≡ pick places (bits (4 * length tables) (four * 2 ^ (4 * k)))
