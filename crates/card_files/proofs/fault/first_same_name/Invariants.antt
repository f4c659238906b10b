use Rattle.std.proofs.Common.{◌≡◌, [], take, drop}
use Rattle.card_files.specs.Faults.{name_fault}
use Rattle.card_files.proofs.fault.first_same_name.Given as goal

abbrev pub invariant-loop-i : goal.invariant-loop-i
invariant-loop-i l = name_fault (take l.i l.apps) (drop l.i l.apps) ≡ name_fault [] l.apps
