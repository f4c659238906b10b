use Rattle.std.proofs.Common.{◌≡◌, ◌-◌, ◌*◌, ◌≤◌, ◌++◌, length}
use Rattle.card_state.specs.Layout.{rows_in}
use Rattle.card_state.proofs.decoding.read_rows.Given as goal

-- the rows are those so far and those of the bytes that are left
abbrev pub invariant-loop-i : goal.invariant-loop-i
invariant-loop-i l = record {
  count : length l.rows.items ≡ l.i;
  whole : 14 * (l.count - l.i) ≤ length l.rest;
  left : rows_in l.count l.bytes ≡ l.rows.items ++ rows_in (l.count - l.i) l.rest;
}
