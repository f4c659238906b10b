use Rattle.std.proofs.Common.{◌≡◌, ◌<◌, length, map, sym, subst, arith}
use Rattle.txn_replay.specs.Seen.{WorldSeen, WorldStands}
use Rattle.txn_replay.proofs.Lists.{found_at}
use Rattle.txn_replay.proofs.world.World.ending.Goals as goal

pub returns : goal.returns
returns g c = λ w stands.
    let v : WorldSeen = record {
      scenario = c.self.inside.scenario.now;
      run_cards = c.self.inside.run_cards.items;
      lanes = c.self.inside.lanes.items;
      lane_stores = c.self.inside.lane_stores.items;
      host = c.self.inside.common.host;
      tally = c.self.inside.common.tally;
      spare = map g.P.Pages.memory c.self.inside.spare.items;
    } in
    let seen : WorldStands v w = subst (λ (x : WorldSeen). WorldStands x w) (sym c.self.view_is) stands in
    let within : c.args.lane < length v.lanes =
    (let below : c.args.lane < length v.scenario.lanes = subst (λ (x : WorldSeen). c.args.lane < length x.scenario.lanes) (sym c.self.view_is) c.requires.lane in
    let count : length v.lanes ≡ length v.scenario.lanes = c.self.invariant.0.lane_count in omega arith) in
    (seen.lanes c.args.lane c.index.result.now (found_at v.lanes c.args.lane c.index.result.now within c.index.ensures)).keeps.ending
