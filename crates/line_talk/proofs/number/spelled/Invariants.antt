use Rattle.std.proofs.Common.{◌≡◌, ◌≤◌, IfSome, drop}
use Rattle.std.specs.List.{fold}
use Rattle.line_talk.specs.Numbers.{next_digit, digits_spelled}
use Rattle.line_talk.proofs.number.spelled.Given as goal

abbrev pub invariant-loop-byte : goal.invariant-loop-byte
invariant-loop-byte l = record {
  same : fold (next_digit l.most) l.number (drop l.byte-index l.digits) ≡ digits_spelled l.most l.digits;
  within : IfSome l.number (λ n. n ≤ l.most);
}
