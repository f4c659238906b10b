use Rattle.std.proofs.Common.{◌≡◌, ℕ, ◌<◌, length, get_or}
use Rattle.emv_dict.specs.Nibbles.{nibbles}
use Rattle.card_keys.proofs.decimal.hexadecimal.Given as goal

abbrev pub invariant-loop-place : goal.invariant-loop-place
invariant-loop-place l = record {
  sized : length l.digits ≡ 40;
  same : (k : ℕ) → k < l.place → get_or l.digits k 0 ≡ get_or (nibbles l.hash) k 0;
  small : (k : ℕ) → k < l.place → get_or l.digits k 0 < 16;
}
