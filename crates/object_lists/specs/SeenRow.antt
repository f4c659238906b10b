-- A row of the program's table of checks as a contract sees it.
use Rattle.std.specs.Prelude.{ℕ}
use Rattle.object_lists.specs.declared.checked.Check.{Check}
use Rattle.object_lists.specs.declared.checked.Row.{Row}

abbrev pub seen_row : Row → ℕ × Check
seen_row row = (row.0, row.1)
