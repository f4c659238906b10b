use Rattle.emv_top.proofs.ReadTold.{fits_start, fits_more, fits_whole}
use Rattle.emv_top.proofs.reading.values_fit.Goals as goal

pub loop-tag-init : goal.loop-tag-init
loop-tag-init c = fits_start c.args.env.now

pub loop-tag-preserved : goal.loop-tag-preserved
loop-tag-preserved c = fits_more _ _ _ _ c.in-Some.ensures.next c.bytes_fit.ensures c.loop-tag.invariant

pub returns : goal.returns
returns c = fits_whole _ _ c.in_default.ensures.next c.loop-tag.invariant
