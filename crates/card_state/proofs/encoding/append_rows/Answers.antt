use Rattle.std.proofs.Common.{rules}
use Rattle.card_state.specs.Encoding.{row_bytes, IsLogRow}
use Rattle.card_state.proofs.Appended.{read_bytes_more, read_all_more}
use Rattle.card_state.proofs.encoding.append_rows.Goals as goal

pub loop-row-preserved : goal.loop-row-preserved
loop-row-preserved c = record {
  items = read_bytes_more c.args.rows.now c.loop-row.row-index _ (search rules) row_bytes _ _ _ c.loop-row.invariant.items c.append_row.ensures.items;
  len = search rules;
  ranges = read_all_more c.args.rows.now c.loop-row.row-index _ (search rules) IsLogRow c.loop-row.invariant.ranges c.append_row.ensures.ranges;
}
