use Rattle.std.proofs.Common.{◌≡◌, ◌≤◌, List, map, sym, ap, ◌∙◌, subst, arith}
use Rattle.txn_replay.specs.Seen.{WorldSeen, WorldStands}
use Rattle.std.specs.List.{sum_by}
use Rattle.scenario_lanes.specs.Plan.{purchase_count}
use Rattle.txn_replay.specs.Run.{ended_count}
use Rattle.txn_replay.specs.declared.lane.Lane.{Lane}
use Rattle.txn_replay.proofs.TurnLaws.WorldTold.{ended_is, ended_few}
use Rattle.txn_replay.proofs.world.World.ended.Goals as goal

pub all_ended-requires : goal.all_ended-requires
all_ended-requires g c =
    let w = c.self.invariant.0.standing.0 in
    let stands = c.self.invariant.0.standing.1 in
    let v : WorldSeen = record {
      scenario = c.self.inside.scenario.now;
      run_cards = c.self.inside.run_cards.items;
      lanes = c.self.inside.lanes.items;
      lane_stores = c.self.inside.lane_stores.items;
      host = c.self.inside.common.host;
      tally = c.self.inside.common.tally;
      spare = map g.P.Pages.memory c.self.inside.spare.items;
    } in
    let few : ended_count w ≤ purchase_count v.scenario.lanes = ended_few v w stands in
    let most : purchase_count v.scenario.lanes ≤ 10000 = c.self.invariant.0.scenario.tables.few_purchases in
    let is : sum_by (λ (lane : Lane). lane.ended) c.as_slice.result.now ≡ ended_count w =
    ap (λ (lanes : List Lane). sum_by (λ lane. lane.ended) lanes) c.as_slice.ensures.value ∙ ended_is v w stands c.self.invariant.0.lane_count in
    omega (arith, few, most, is)

pub returns : goal.returns
returns g c = λ w stands.
    let v : WorldSeen = record {
      scenario = c.self.inside.scenario.now;
      run_cards = c.self.inside.run_cards.items;
      lanes = c.self.inside.lanes.items;
      lane_stores = c.self.inside.lane_stores.items;
      host = c.self.inside.common.host;
      tally = c.self.inside.common.tally;
      spare = map g.P.Pages.memory c.self.inside.spare.items;
    } in
    let seen : WorldStands v w = subst (λ (x : WorldSeen). WorldStands x w) (sym c.self.view_is) stands in
    c.all_ended.ensures
    ∙ ap (λ (lanes : List Lane). sum_by (λ lane. lane.ended) lanes) c.as_slice.ensures.value
    ∙ ended_is v w seen c.self.invariant.0.lane_count
