use Rattle.std.proofs.Common.{◌≡◌, ◌+◌, ◌≤◌, ◌++◌, take}
use Rattle.arrayvec.specs.ArrayVec.{array_vec_len}
use Rattle.report_text.specs.Pieces.{digits_text}
use Rattle.report_text.proofs.pieces.digits.Given as goal

abbrev pub invariant-loop-digit : goal.invariant-loop-digit
invariant-loop-digit l = record {
  text : l.out.items ≡ l.fn.out.items ++ digits_text (take l.digit-index l.digit-items);
  len : array_vec_len l.out ≤ array_vec_len l.fn.out + l.digit-index;
}
