-- The bit that makes a tag constructed, in the first byte that is written for it.
use Rattle.std.proofs.Common.{◌≡◌, ℕ, Bool, true, false, ◌/◌, ◌%◌, ◌==◌, nat_lt, refl, arith, ap}
use Rattle.std.specs.Prelude.{slice_index}
use Rattle.std.specs.Int.{bit_at}
use Rattle.ber_tlv.specs.Tag.{first_byte_of, names_template}
use Rattle.ber_tlv.specs.Written.{tag_bytes}

bit_by_size : (tag : ℕ) (one two : Bool) → nat_lt tag 256 ≡ one → nat_lt tag 65536 ≡ two → first_byte_of tag / 32 % 2 ≡ bit_at (slice_index (tag_bytes tag) 0) 5
bit_by_size tag true two p q = rw p refl
bit_by_size tag false true p q = rw (p, q) refl
bit_by_size tag false false p q = rw (p, q) (omega arith)

pub constructed_bit : (tag : ℕ) → names_template tag ≡ (bit_at (slice_index (tag_bytes tag) 0) 5 == 1)
constructed_bit tag = ap (λ n. n == 1) (bit_by_size tag (nat_lt tag 256) (nat_lt tag 65536) refl refl)
