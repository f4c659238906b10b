use Rattle.std.proofs.Common.{◌≡◌, ◌+◌, ◌*◌, ◌≤◌, ◌++◌, take}
use Rattle.std.specs.List.{flat_map}
use Rattle.arrayvec.specs.ArrayVec.{array_vec_len}
use Rattle.card_words.specs.StateText.{row_text}
use Rattle.card_words.proofs.state.rows.Given as goal

abbrev pub invariant-loop-one : goal.invariant-loop-one
invariant-loop-one l = record {
  text : l.out.items ≡ l.fn.out.items ++ flat_map row_text (take l.one-index l.rows);
  len : array_vec_len l.out ≤ array_vec_len l.fn.out + 50 * l.one-index;
}
