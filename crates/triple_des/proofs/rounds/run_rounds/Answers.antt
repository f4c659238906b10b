use Rattle.std.proofs.Common.{sym, ◌∙◌}
use Rattle.triple_des.proofs.WordRounds.{rounds_step, rounds_end}
use Rattle.triple_des.proofs.rounds.run_rounds.Goals as goal

pub loop-key-preserved : goal.loop-key-preserved
loop-key-preserved c =
    rounds_step c.args.keys.now c.loop-key.key-index c.loop-key.left c.loop-key.right c.mix.result c.loop-key-test.true c.mix.ensures ∙ c.loop-key.invariant

pub returns : goal.returns
returns c =
    sym (rounds_end c.args.keys.now c.loop-key.key-index c.loop-key.left c.loop-key.right c.loop-key-test.false) ∙ c.loop-key.invariant
