use Rattle.std.proofs.Common.{length}
use Rattle.card_check.proofs.Walking.{Stands}
use Rattle.card_check.proofs.own.read_left.Given as goal
use Rattle.object_lists.specs.Checked.{HasOptions}

abbrev pub invariant-loop-cause : goal.invariant-loop-cause
invariant-loop-cause l = record {
  options : HasOptions l.env;
  stands : Stands l.app (record { entries = l.fn.env; left = l.fn.course }) l.env l.left;
}

abbrev pub decreases-loop-cause : goal.decreases-loop-cause
decreases-loop-cause l = length l.left
