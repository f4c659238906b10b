use Rattle.std.proofs.Common.{◌≡◌, ◌<◌, List, None, length, map, sym, ap, ◌∙◌, subst, arith}
use Rattle.std.specs.Prelude.{option_map}
use Rattle.kernel.specs.Dialogue.{dialogue}
use Rattle.kernel.specs.Kernel.{KernelData, KernelStands, outset_in}
use Rattle.kernel.specs.Reply.{Reply}
use Rattle.terminal_state.specs.StepResults.{latest, sets_card}
use Rattle.txn_replay.proofs.Lists.{found_at}
use Rattle.txn_replay.proofs.TurnLaws.WorldTold.{rests_data, told_data}
use Rattle.txn_replay.proofs.world.World.read_data.Goals as goal
use Rattle.txn_replay.specs.Reading.{data_at}
use Rattle.txn_replay.specs.Seen.{WorldSeen, WorldStands}

pub returns-in-Some : goal.returns-in-Some
returns-in-Some g c = λ w stands.
    let v : WorldSeen = record {
      scenario = c.self.inside.scenario.now;
      run_cards = c.self.inside.run_cards.items;
      lanes = c.self.inside.lanes.items;
      lane_stores = c.self.inside.lane_stores.items;
      host = c.self.inside.common.host;
      tally = c.self.inside.common.tally;
      spare = map g.P.Pages.memory c.self.inside.spare.items;
    } in
    let seen : WorldStands v w = subst (λ (x : WorldSeen). WorldStands x w) (sym c.self.view_is) stands in
    let within : c.args.lane < length v.lanes =
    (let below : c.args.lane < length v.scenario.lanes = subst (λ (x : WorldSeen). c.args.lane < length x.scenario.lanes) (sym c.self.view_is) c.requires.lane in
    let count : length v.lanes ≡ length v.scenario.lanes = c.self.invariant.0.lane_count in omega arith) in
    let here = found_at v.lanes c.args.lane c.index-row.result.now within c.index-row.ensures in
    told_data v w seen c.args.lane c.index-row.result.now here c.in-Some.kernel (option_map (λ card. card.now) c.data.result) c.in-Some.is
    (subst (λ (k : KernelData). (replies : List Reply) → KernelStands k replies
    → option_map (λ card. card.now) c.data.result ≡ latest sets_card None (dialogue (outset_in k) replies).steps_done) c.deref.ensures c.data.ensures.told)
    ∙ ap (λ (x : WorldSeen). data_at x.scenario w c.args.lane) c.self.view_is

pub returns-in-None : goal.returns-in-None
returns-in-None g c = λ w stands.
    let v : WorldSeen = record {
      scenario = c.self.inside.scenario.now;
      run_cards = c.self.inside.run_cards.items;
      lanes = c.self.inside.lanes.items;
      lane_stores = c.self.inside.lane_stores.items;
      host = c.self.inside.common.host;
      tally = c.self.inside.common.tally;
      spare = map g.P.Pages.memory c.self.inside.spare.items;
    } in
    let seen : WorldStands v w = subst (λ (x : WorldSeen). WorldStands x w) (sym c.self.view_is) stands in
    let within : c.args.lane < length v.lanes =
    (let below : c.args.lane < length v.scenario.lanes = subst (λ (x : WorldSeen). c.args.lane < length x.scenario.lanes) (sym c.self.view_is) c.requires.lane in
    let count : length v.lanes ≡ length v.scenario.lanes = c.self.invariant.0.lane_count in omega arith) in
    let here = found_at v.lanes c.args.lane c.index-row.result.now within c.index-row.ensures in
    c.data_in.ensures
    ∙ rests_data v w seen c.args.lane c.index-row.result.now here c.in-None.is
    ∙ ap (λ (x : WorldSeen). data_at x.scenario w c.args.lane) c.self.view_is
