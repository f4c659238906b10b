use Rattle.std.proofs.Common.{◌∙◌, refl}
use Rattle.emv_top.proofs.Objects.{objects_start, all_short, objects_more, rest_short}
use Rattle.emv_top.proofs.reading.write_objects.Goals as goal

pub loop-tag-init : goal.loop-tag-init
loop-tag-init g c = record {
  so_far = objects_start _ c.args.env.now;
  short = all_short c.args.env.now c.requires;
  calm = refl;
}

pub loop-tag-preserved : goal.loop-tag-preserved
loop-tag-preserved g c = record {
  so_far = objects_more _ _ _ _ _ _ _ c.in-Some.ensures.next c.loop-tag.invariant.so_far c.in-Ok.ensures.all;
  short = rest_short _ _ _ c.in-Some.ensures.next c.loop-tag.invariant.short;
  calm = c.in-Ok.ensures.stop ∙ c.loop-tag.invariant.calm;
}
