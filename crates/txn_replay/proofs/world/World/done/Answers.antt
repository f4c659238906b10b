use Rattle.std.proofs.Common.{◌≡◌, length, map, sym, ap, ◌∙◌, subst}
use Rattle.scenario_plan.specs.Plan.{ScenarioData}
use Rattle.txn_replay.specs.Run.{all_over}
use Rattle.txn_replay.specs.Seen.{WorldSeen, WorldStands, done_below}
use Rattle.txn_replay.proofs.TurnLaws.WorldTold.{done_is}
use Rattle.txn_replay.proofs.world.World.done.Goals as goal

pub returns-clause-over : goal.returns-clause-over
returns-clause-over g c = λ w stands.
    let v : WorldSeen = record {
      scenario = c.self.inside.scenario.now;
      run_cards = c.self.inside.run_cards.items;
      lanes = c.self.inside.lanes.items;
      lane_stores = c.self.inside.lane_stores.items;
      host = c.self.inside.common.host;
      tally = c.self.inside.common.tally;
      spare = map g.P.Pages.memory c.self.inside.spare.items;
    } in
    let seen : WorldStands v w = subst (λ (x : WorldSeen). WorldStands x w) (sym c.self.view_is) stands in
    let terminals : c.as_slice.result.now ≡ v.scenario.lanes = c.as_slice.ensures.value ∙ ap (λ (s : ScenarioData). s.lanes) c.scenario.view_is in
    c.are_done.ensures
    ∙ (λ i. done_below (terminals i) (c.as_slice-2.ensures.value i) (length (terminals i)))
    ∙ done_is v w seen c.self.invariant.0.scenario c.self.invariant.0.lane_count
    ∙ ap (λ (x : WorldSeen). all_over x.scenario w) c.self.view_is
