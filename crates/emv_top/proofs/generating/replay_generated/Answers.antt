use Rattle.emv_top.proofs.Summing.{unheard, unsummed}
use Rattle.emv_top.proofs.generating.replay_generated.Goals as goal

pub returns-in-Err : goal.returns-in-Err
returns-in-Err g c = record {
  told = unsummed c.args.count c.args.scenario.now c.requires.is _ _ c.in-Err.ended.status (g.K.Sink.held c.args.sink.now) c.in-Err.ensures.unfinished c.in-Err.ensures.count
      c.in-Err.ensures.cut;
  count = unheard c.in-Err.ended.status _ c.in-Err.ensures.count;
}
