use Rattle.std.proofs.Common.{subst, sym}
use Rattle.emv_top.specs.Answers.{Plays}
use Rattle.emv_top.specs.StatusCode.{Concludes}
use Rattle.emv_top.specs.declared.status.Status.{Status}
use Rattle.emv_top.specs.declared.words.Task.TheVariants.{Replay}
use Rattle.emv_top.proofs.Answering.{whole_replay}
use Rattle.emv_top.proofs.top.replay.Goals as goal

pub returns-in-Ok : goal.returns-in-Ok
returns-in-Ok g c =
    subst (λ (st : Status). Concludes
    (Plays Replay c.args.scenario.now (g.K.Sink.held c.args.sink.now) (g.K.Sink.held c.replay_whole.new.sink) c.end_world.result.bank c.end_world.result.tally)
    (g.K.Sink.faults c.args.sink.now) (g.K.Sink.faults c.replay_whole.new.sink) st) (sym c.end_world.ensures.status)
    (record {
      told = whole_replay c.args.scenario.now c.in-Ok.world c.in-Ok.ensures.told _ _ _ _ c.end_world.ensures.leaves c.in-Ok.ensures.whole;
      count = c.in-Ok.ensures.calm;
    })
