use Rattle.std.proofs.Common.{sym, ◌∙◌, arith}
use Rattle.std.proofs.lemmas.List.{length-set}
use Rattle.triple_des.specs.Tables.{second_choice_table}
use Rattle.triple_des.proofs.Nibbles.{second_choice_tables}
use Rattle.triple_des.proofs.ScheduleSteps.{shift_bounds, schedule_step, schedule_end}
use Rattle.triple_des.proofs.schedule.schedule_halves.Goals as goal

pub turn-right-requires-clause-some : goal.turn-right-requires-clause-some
turn-right-requires-clause-some c = (shift_bounds c.loop-index.index c.loop-index-test.true).0

pub turn-right-requires-clause-few : goal.turn-right-requires-clause-few
turn-right-requires-clause-few c = (shift_bounds c.loop-index.index c.loop-index-test.true).1

pub loop-index-preserved : goal.loop-index-preserved
unfolding second_choice_table
loop-index-preserved c =
    let keys = c.loop-index.keys in
    let i = c.loop-index.index in
    let before = c.loop-index.invariant in
    record {
      sized = length-set keys i c.permute_by.result ∙ before.sized;
      left_fits = c.turn-left.ensures.fits;
      right_fits = c.turn-right.ensures.fits;
      so_far =
          schedule_step keys i c.loop-index.left c.loop-index.right c.turn-left.result c.turn-right.result c.permute_by.result c.loop-index-test.true before.sized c.turn-left.ensures.bits c.turn-right.ensures.bits c.turn-right.ensures.fits (c.permute_by.ensures second_choice_table second_choice_tables)
          ∙ before.so_far;
    }

pub returns : goal.returns
returns c =
    sym (schedule_end c.loop-index.keys c.loop-index.index c.loop-index.left c.loop-index.right (omega arith) c.loop-index.invariant.sized)
    ∙ c.loop-index.invariant.so_far
