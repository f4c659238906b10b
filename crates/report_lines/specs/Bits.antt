-- The bits of a number that are set, in words.
use Rattle.std.specs.Prelude.{ℕ, ◌-◌, ◌==◌, Bool, false, List, map, filter}
use Rattle.std.specs.Int.{bit_at}
use Rattle.std.specs.List.{range_with_len}
use Rattle.report_lines.specs.Pieces.{Piece, joined}

-- whether a number of so many bits has the bit of this place, from 0 at the left
abbrev pub has_bit : ℕ → ℕ → ℕ → Bool
has_bit width bits place = bit_at bits (width - 1 - place) == 1

-- what is told of the bits that are set among `count` from a place on, with something between; `told` says whether
-- some were told before
unfoldable pub bits_told_from : ℕ → List Piece → (ℕ → List Piece) → ℕ → Bool → ℕ → ℕ → List Piece
bits_told_from width between name bits told place count = joined told between (map name (filter (has_bit width bits) (range_with_len place count)))

-- what is told of each bit that is set, by its place, with something between
abbrev pub bits_between : ℕ → List Piece → (ℕ → List Piece) → ℕ → List Piece
bits_between width between name bits = bits_told_from width between name bits false 0 width
