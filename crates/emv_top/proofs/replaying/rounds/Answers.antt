use Rattle.std.proofs.Common.{◌≡◌, true, rules, ◌∙◌, sym, subst}
use Rattle.emv_top.proofs.Going.{passes}
use Rattle.scenario_plan.specs.Plan.{ScenarioData}
use Rattle.txn_replay.specs.Run.{Reached, Round, Settling, settlement, all_over}
use Rattle.txn_replay.specs.World.{World}
use Rattle.txn_replay.specs.Seen.{WorldStands}
use Rattle.emv_top.proofs.replaying.rounds.Goals as goal

pub loop-world-preserved : goal.loop-world-preserved
loop-world-preserved g c = record {
  far = λ first far. c.in-Ok.ensures.passage.ok first (c.loop-world.invariant.far first far);
  told = c.in-Ok.ensures.passage.told;
  calm = c.in-Ok.ensures.passage.stop ∙ c.loop-world.invariant.calm;
}

pub returns-in-Err-clause-passage : goal.returns-in-Err-clause-passage
returns-in-Err-clause-passage g c = record {
  ok = search rules;
  err = λ first far. c.in-Err.ensures.passage.err first (c.loop-world.invariant.far first far);
  told = c.in-Err.ensures.passage.told;
  stop = search rules;
}

pub returns-clause-passage : goal.returns-clause-passage
returns-clause-passage g c =
    let over = subst (λ (t : ScenarioData). (w : World) → WorldStands c.loop-world.world w → true ≡ all_over t w) c.loop-world.invariant.told c.loop-world-test.ensures.over in
    record {
      ok = λ first far.
          passes (Reached c.args.scenario.now (Round 0)) (Reached c.args.scenario.now (Settling 0)) (WorldStands c.loop-world.world) first _
          (λ n cs ls w reached stands. settlement reached (sym (over w stands))) (c.loop-world.invariant.far first far);
      err = search rules;
      told = c.loop-world.invariant.told;
      stop = c.loop-world.invariant.calm;
    }
