use Rattle.std.proofs.Common.{map, sym, subst}
use Rattle.txn_replay.specs.Seen.{WorldSeen, WorldStands}
use Rattle.txn_replay.proofs.TurnLaws.WorldTold.{made_messages}
use Rattle.txn_replay.proofs.world.World.made_messages.Goals as goal

pub returns : goal.returns
returns g c = λ w stands.
    let v : WorldSeen = record {
      scenario = c.self.inside.scenario.now;
      run_cards = c.self.inside.run_cards.items;
      lanes = c.self.inside.lanes.items;
      lane_stores = c.self.inside.lane_stores.items;
      host = c.self.inside.common.host;
      tally = c.self.inside.common.tally;
      spare = map g.P.Pages.memory c.self.inside.spare.items;
    } in
    made_messages v w (subst (λ (x : WorldSeen). WorldStands x w) (sym c.self.view_is) stands) c.self.invariant.0.lane_count
