use Rattle.std.proofs.Common.{rules, ◌∙◌}
use Rattle.emv_top.proofs.Writing.{line_more, line_front}
use Rattle.emv_top.proofs.lines.write_lines.Goals as goal

pub returns-in-Err : goal.returns-in-Err
returns-in-Err g c = record {
  all = search rules;
  front = line_front _ _ _ c.in-Some.ensures _ _ _ _ c.loop-line.invariant.so_far c.in-Err.ensures.front;
  stop = search rules;
}

pub loop-line-preserved : goal.loop-line-preserved
loop-line-preserved g c = record {
  so_far = line_more _ _ _ c.in-Some.ensures _ _ _ _ c.loop-line.invariant.so_far c.in-Ok.ensures.all;
  calm = c.in-Ok.ensures.stop ∙ c.loop-line.invariant.calm;
}
