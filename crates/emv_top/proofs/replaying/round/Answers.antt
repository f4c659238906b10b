use Rattle.std.proofs.Common.{◌≡◌, ℕ, ◌+◌, ◌<◌, ◌≤◌, List, length, refl, ap, rules, ◌∙◌, subst, arith}
use Rattle.emv_top.proofs.Going.{passes}
use Rattle.emv_top.proofs.Replays.{onward, cut_off, onward_next, fell}
use Rattle.scenario_plan.specs.Plan.{ScenarioData}
use Rattle.scenario_lanes.specs.Plan.{LaneData}
use Rattle.txn_replay.specs.Run.{Reached, Round, round, again}
use Rattle.txn_replay.specs.declared.event.Event.TheVariants.{Turn}
use Rattle.txn_replay.specs.Seen.{WorldStands}
use Rattle.emv_top.proofs.replaying.round.Goals as goal

pub loop-lane-preserved : goal.loop-lane-preserved
loop-lane-preserved g c =
    let count : length c.as_slice-lanes.result.now ≡ length c.args.scenario.now.lanes = ap (λ (xs : List LaneData). length xs) (c.as_slice-lanes.ensures.value ∙ ap (λ (s : ScenarioData). s.lanes) c.scenario.view_is) in
    let inside : c.loop-lane.lane < length c.args.scenario.now.lanes = omega (arith, count, c.loop-lane-test.true) in
    record {
      far = λ first far.
          onward c.args.scenario.now (Turn c.loop-lane.lane) c.loop-lane.world c.turn.new.world c.loop-lane.invariant.told c.in-Ok.ensures.happens.scenario
          (Round c.loop-lane.lane) (Round (c.loop-lane.lane + 1))
          (λ n cs ch ls made w next reached stands there step. round reached inside (λ zero. c.loop-lane.invariant.busy zero w stands) step) first _ _
          (λ w stands. tt) c.in-Ok.ensures.happens.ok (c.loop-lane.invariant.far first far);
      told = c.in-Ok.ensures.happens.scenario ∙ c.loop-lane.invariant.told;
      calm = c.in-Ok.ensures.happens.stop ∙ c.loop-lane.invariant.calm;
      within = omega arith;
      busy = λ none. absurd (omega arith);
      onward = onward_next c.args.scenario.now c.args.world.now c.loop-lane.world c.turn.new.world c.loop-lane.invariant.told c.loop-lane.lane
          c.in-Ok.field-0 c.in-Ok.ensures.nearer c.in-Ok.ensures.idle c.in-Ok.ensures.still c.loop-lane.invariant.onward;
    }

pub returns-in-Err-clause-passage : goal.returns-in-Err-clause-passage
returns-in-Err-clause-passage g c =
    let count : length c.as_slice-lanes.result.now ≡ length c.args.scenario.now.lanes = ap (λ (xs : List LaneData). length xs) (c.as_slice-lanes.ensures.value ∙ ap (λ (s : ScenarioData). s.lanes) c.scenario.view_is) in
    let inside : c.loop-lane.lane < length c.args.scenario.now.lanes = omega (arith, count, c.loop-lane-test.true) in
    record {
      ok = search rules;
      err = λ first far.
          cut_off c.args.scenario.now (Turn c.loop-lane.lane) c.loop-lane.world c.turn.new.world c.loop-lane.invariant.told c.in-Err.ensures.happens.scenario
          (Round c.loop-lane.lane) (Round (c.loop-lane.lane + 1))
          (λ n cs ch ls made w next reached stands there step. round reached inside (λ zero. c.loop-lane.invariant.busy zero w stands) step) first _ _
          (λ w. refl) (λ w. refl) c.in-Err.ensures.happens.err (c.loop-lane.invariant.far first far);
      told = c.in-Err.ensures.happens.scenario ∙ c.loop-lane.invariant.told;
      stop = search rules;
    }

pub returns-clause-passage : goal.returns-clause-passage
returns-clause-passage g c =
    let count : length c.as_slice-lanes.result.now ≡ length c.args.scenario.now.lanes = ap (λ (xs : List LaneData). length xs) (c.as_slice-lanes.ensures.value ∙ ap (λ (s : ScenarioData). s.lanes) c.scenario.view_is) in
    let end : c.loop-lane.lane ≡ length c.args.scenario.now.lanes = omega (arith, count, c.loop-lane-test.false, c.loop-lane.invariant.within) in
    record {
      ok = λ first far.
          passes (Reached c.args.scenario.now (Round c.loop-lane.lane)) (Reached c.args.scenario.now (Round 0)) (WorldStands c.loop-lane.world) first _
          (λ n cs ls w reached stands. again (subst (λ (k : ℕ). Reached c.args.scenario.now (Round k) n cs ls w) end reached)) (c.loop-lane.invariant.far first far);
      err = search rules;
      told = c.loop-lane.invariant.told;
      stop = c.loop-lane.invariant.calm;
    }

pub returns-clause-nearer : goal.returns-clause-nearer
returns-clause-nearer g c =
    let count : length c.as_slice-lanes.result.now ≡ length c.args.scenario.now.lanes = ap (λ (xs : List LaneData). length xs) (c.as_slice-lanes.ensures.value ∙ ap (λ (s : ScenarioData). s.lanes) c.scenario.view_is) in
    let past : length c.args.scenario.now.lanes ≤ c.loop-lane.lane = omega (arith, count, c.loop-lane-test.false) in
    fell c.args.scenario.now c.args.world.now c.loop-lane.world c.loop-lane.lane past c.requires.told c.requires.here.1.world c.requires.here.1.stands
    c.requires.busy c.loop-lane.invariant.onward
