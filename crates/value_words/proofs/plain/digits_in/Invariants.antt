use Rattle.std.proofs.Common.{◌≡◌, ◌≤◌, ◌+◌, ◌*◌, drop}
use Rattle.value_words.specs.Digits.{digit_count}
use Rattle.value_words.proofs.plain.digits_in.Given as goal

abbrev pub invariant-loop-byte : goal.invariant-loop-byte
invariant-loop-byte l = record {
  few : l.count ≤ 2 * l.byte-index;
  left : l.count + digit_count (drop l.byte-index l.value) ≡ digit_count l.value;
}
