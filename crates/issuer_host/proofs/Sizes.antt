-- How long a data object gets.
use Rattle.std.proofs.Common.{◌≡◌, ℕ, List, length, arith, length-append}
use Rattle.ber_tlv.specs.Written.{written, written_length}

pub written_size : (tag : ℕ) (value : List ℕ) → length (written tag value) ≡ written_length tag (length value)
unfolding written
written_size tag value = simp length-append (omega arith)
