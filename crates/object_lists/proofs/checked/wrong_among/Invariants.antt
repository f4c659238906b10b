use Rattle.std.proofs.Common.{◌≡◌, map, drop}
use Rattle.object_lists.specs.Checked.{first_wrong}
use Rattle.object_lists.specs.SeenRow.{seen_row}
use Rattle.object_lists.proofs.checked.wrong_among.Given as goal

abbrev pub invariant-loop-row : goal.invariant-loop-row
invariant-loop-row l = first_wrong (map seen_row (drop l.row-index l.rows)) l.env ≡ first_wrong (map seen_row l.rows) l.env
