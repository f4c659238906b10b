use Rattle.triple_des.specs.Bits.{bits}
use Rattle.triple_des.specs.Tables.{shift_table}
use Rattle.triple_des.specs.Des.{schedule}
use Rattle.triple_des.proofs.ScheduleSteps.{IsScheduled}
use Rattle.triple_des.proofs.schedule.schedule_halves.Given as goal

abbrev pub invariant-loop-index : goal.invariant-loop-index
invariant-loop-index l =
    IsScheduled l.keys l.index l.left l.right (schedule shift_table (bits 28 l.fn.left) (bits 28 l.fn.right))
