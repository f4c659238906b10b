use Rattle.std.proofs.Common.{bit_xor, get_or, rules, ◌∙◌}
use Rattle.std.proofs.lemmas.List.{length-set}
use Rattle.triple_des.proofs.ChainSteps.{no_bytes, xor_bytes_step}
use Rattle.triple_des.proofs.chaining.xor_blocks.Goals as goal

pub loop-index-init : goal.loop-index-init
loop-index-init c = (search rules, no_bytes)

pub loop-index-preserved : goal.loop-index-preserved
loop-index-preserved c = (
  length-set c.loop-index.sum c.loop-index.index (bit_xor (get_or c.args.first c.loop-index.index 0) (get_or c.args.second c.loop-index.index 0)) ∙ c.loop-index.invariant.0,
  xor_bytes_step c.loop-index.sum c.args.first c.args.second c.loop-index.index c.loop-index-test.true c.loop-index.invariant.0 (search rules) (search rules) c.loop-index.invariant.1,
)
