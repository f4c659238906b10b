use Rattle.std.proofs.Common.{rules, ◌∙◌}
use Rattle.emv_top.proofs.Writing.{piece_more, piece_front}
use Rattle.txn_replay.specs.Reading.{without_end}
use Rattle.emv_top.proofs.lines.write_shown.Goals as goal

pub returns-in-Err : goal.returns-in-Err
returns-in-Err g c = record {
  all = search rules;
  front = piece_front without_end _ _ _ c.in-Some.ensures _ _ _ _ c.loop-line.invariant.so_far c.in-Err.ensures.front;
  stop = search rules;
}

pub loop-line-preserved : goal.loop-line-preserved
loop-line-preserved g c = record {
  so_far = piece_more without_end _ _ _ c.in-Some.ensures _ _ _ _ c.loop-line.invariant.so_far c.in-Ok.ensures.all;
  calm = c.in-Ok.ensures.stop ∙ c.loop-line.invariant.calm;
}
