use Rattle.std.proofs.Common.{◌≡◌, ◌++◌, take}
use Rattle.app_select.specs.Named.{all_named}
use Rattle.app_select.proofs.search.turns.push_named.Given as goal

abbrev pub invariant-loop-one : goal.invariant-loop-one
invariant-loop-one l = l.candidates ≡ l.initial.candidates ++ all_named l.rows (take l.one-index l.found)
