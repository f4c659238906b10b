use Rattle.std.proofs.Common.{◌≡◌, ◌+◌, ◌*◌, ◌≤◌, ◌++◌, take}
use Rattle.arrayvec.specs.ArrayVec.{array_vec_len}
use Rattle.report_text.specs.Text.{all_shown}
use Rattle.report_text.proofs.write.all_shown.Given as goal

abbrev pub invariant-loop-state : goal.invariant-loop-state
invariant-loop-state l = record {
  text : l.out.items ≡ l.fn.out.items ++ all_shown (take l.state-index l.apps);
  len : array_vec_len l.out ≤ array_vec_len l.fn.out + 300 * l.state-index;
}
