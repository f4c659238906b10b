-- How long a field gets.
use Rattle.std.proofs.Common.{ℕ, ◌+◌, ◌≤◌, Bool, true, false, List, length, arith, length-append, ◌≡◌, refl}
use Rattle.std.specs.Prelude.{nat_lt}
use Rattle.ber_tlv.specs.Written.{written, tag_bytes}
use Rattle.ber_tlv.proofs.Spelling.{any_count}

tag_short : (tag : ℕ) (p q : Bool) → nat_lt tag 256 ≡ p → nat_lt tag 65536 ≡ q → length (tag_bytes tag) ≤ 3
tag_short tag true q one two = rw one (omega arith)
tag_short tag false true one two = rw (one, two) (omega arith)
tag_short tag false false one two = rw (one, two) (omega arith)

-- at most three bytes of tag and three of length
pub written_short : (tag : ℕ) (value : List ℕ) → length (written tag value) ≤ length value + 6
unfolding written
written_short tag value =
    simp length-append (omega (arith, tag_short tag _ _ refl refl, any_count (length value)))
