use Rattle.std.proofs.Common.{ℕ, ◌+◌, refl, ap, rules, ◌∙◌, subst}
use Rattle.emv_top.proofs.Going.{passes}
use Rattle.emv_top.proofs.Replays.{scheduled_at, onward, cut_off, at_end}
use Rattle.scenario_plan.specs.Plan.{ScenarioData}
use Rattle.txn_replay.specs.Run.{Reached, Scheduled, Round, scheduled, rounds}
use Rattle.txn_replay.specs.declared.event.Event.TheVariants.{Turn}
use Rattle.txn_replay.specs.Seen.{WorldStands}
use Rattle.emv_top.proofs.replaying.schedule.Goals as goal

pub returns-in-Err : goal.returns-in-Err
returns-in-Err g c =
    let at = scheduled_at c.args.scenario.now.schedule c.deref-lane-items.result.now c.loop-lane.lane-index c.from.result
    (c.deref-lane-items.ensures.value ∙ ap (λ (s : ScenarioData). s.schedule) c.scenario.view_is) c.loop-lane-test.true c.from.ensures in
    record {
      ok = search rules;
      err = λ first far.
          cut_off c.args.scenario.now (Turn c.from.result) c.loop-lane.world c.turn.new.world c.loop-lane.invariant.told c.in-Err.ensures.happens.scenario
          (Scheduled c.loop-lane.lane-index) (Scheduled (c.loop-lane.lane-index + 1)) (λ n cs ch ls made w next reached stands there step. scheduled reached at step) first _ _
          (λ w. refl) (λ w. refl) c.in-Err.ensures.happens.err (c.loop-lane.invariant.far first far);
      told = c.in-Err.ensures.happens.scenario ∙ c.loop-lane.invariant.told;
      stop = search rules;
    }

pub loop-lane-preserved : goal.loop-lane-preserved
loop-lane-preserved g c =
    let at = scheduled_at c.args.scenario.now.schedule c.deref-lane-items.result.now c.loop-lane.lane-index c.from.result
    (c.deref-lane-items.ensures.value ∙ ap (λ (s : ScenarioData). s.schedule) c.scenario.view_is) c.loop-lane-test.true c.from.ensures in
    record {
      far = λ first far.
          onward c.args.scenario.now (Turn c.from.result) c.loop-lane.world c.turn.new.world c.loop-lane.invariant.told c.in-Ok.ensures.happens.scenario
          (Scheduled c.loop-lane.lane-index) (Scheduled (c.loop-lane.lane-index + 1)) (λ n cs ch ls made w next reached stands there step. scheduled reached at step) first _ _
          (λ w stands. tt) c.in-Ok.ensures.happens.ok (c.loop-lane.invariant.far first far);
      told = c.in-Ok.ensures.happens.scenario ∙ c.loop-lane.invariant.told;
      calm = c.in-Ok.ensures.happens.stop ∙ c.loop-lane.invariant.calm;
    }

pub returns : goal.returns
returns g c =
    let end = at_end c.args.scenario.now.schedule c.deref-lane-items.result.now c.loop-lane.lane-index
    (c.deref-lane-items.ensures.value ∙ ap (λ (s : ScenarioData). s.schedule) c.scenario.view_is) c.loop-lane-test.false c.loop-lane.auto.lane-index-end in
    record {
      ok = λ first far.
          passes (Reached c.args.scenario.now (Scheduled c.loop-lane.lane-index)) (Reached c.args.scenario.now (Round 0)) (WorldStands c.loop-lane.world) first _
          (λ n cs ls w reached stands. rounds (subst (λ (k : ℕ). Reached c.args.scenario.now (Scheduled k) n cs ls w) end reached)) (c.loop-lane.invariant.far first far);
      err = search rules;
      told = c.loop-lane.invariant.told;
      stop = c.loop-lane.invariant.calm;
    }
