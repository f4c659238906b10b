use Rattle.std.proofs.Common.{◌≡◌, ℕ, ◌<◌, false, get_or}
use Rattle.emv_dict.specs.Nibbles.{nibbles}
use Rattle.emv_dict.specs.Pan.{is_filler}
use Rattle.emv_dict.proofs.pan.digit_count.Given as goal

-- no filler stands before this place
abbrev pub invariant-loop-place : goal.invariant-loop-place
invariant-loop-place l = (k : ℕ) → k < l.place → is_filler (get_or (nibbles l.field) k 0) ≡ false
