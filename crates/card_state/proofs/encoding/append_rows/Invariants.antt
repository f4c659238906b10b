use Rattle.std.proofs.Common.{◌≡◌, ◌+◌, ◌*◌, ◌++◌, take, flat_map}
use Rattle.std.specs.List.{All}
use Rattle.arrayvec.specs.ArrayVec.{array_vec_len}
use Rattle.card_state.specs.Encoding.{row_bytes, IsLogRow}
use Rattle.card_state.proofs.encoding.append_rows.Given as goal

-- the rows so far are appended
abbrev pub invariant-loop-row : goal.invariant-loop-row
invariant-loop-row l = record {
  items : l.out.items ≡ l.initial.out.items ++ flat_map row_bytes (take l.row-index l.rows);
  len : array_vec_len l.out ≡ array_vec_len l.initial.out + 14 * l.row-index;
  ranges : All IsLogRow (take l.row-index l.rows);
}
