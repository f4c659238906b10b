use Rattle.std.proofs.Common.{◌≡◌, ◌+◌, length, map, sym, subst, arith}
use Rattle.std.specs.List.{All}
use Rattle.std.proofs.lemmas.List.{length-map}
use Rattle.emv_ports.specs.Memory.{IsBlank}
use Rattle.txn_replay.specs.Banked.{stores_in}
use Rattle.txn_replay.specs.Seen.{WorldSeen, WorldStands, BankStands, durable_count}
use Rattle.txn_replay.proofs.PageLaws.StorePagesBack.{all_stores, bank_stands}
use Rattle.txn_replay.proofs.world.World.into_bank.Goals as goal

pub give_pages-requires : goal.give_pages-requires
give_pages-requires g c =
    let v : WorldSeen = record {
      scenario = c.self.inside.scenario.now;
      run_cards = c.self.inside.run_cards.items;
      lanes = c.self.inside.lanes.items;
      lane_stores = c.self.inside.lane_stores.items;
      host = c.self.inside.common.host;
      tally = c.self.inside.common.tally;
      spare = map g.P.Pages.memory c.self.inside.spare.items;
    } in
    let spare : length v.spare ≡ length c.self.inside.spare.items = length-map c.self.inside.spare.items g.P.Pages.memory in
    omega (arith, spare, c.self.invariant.0.pages, c.self.invariant.0.run_card_count, c.self.invariant.1, c.self.inside.run_cards.ok.0, c.self.inside.spare.ok.0)

pub give_stores-requires-clause-few : goal.give_stores-requires-clause-few
give_stores-requires-clause-few g c =
    omega (arith, c.self.invariant.0.scenario.tables.few_lanes, c.self.invariant.0.lane_store_count, c.self.inside.lane_stores.ok.0)

pub give_stores-requires-clause-pages : goal.give_stores-requires-clause-pages
give_stores-requires-clause-pages g c =
    let v : WorldSeen = record {
      scenario = c.self.inside.scenario.now;
      run_cards = c.self.inside.run_cards.items;
      lanes = c.self.inside.lanes.items;
      lane_stores = c.self.inside.lane_stores.items;
      host = c.self.inside.common.host;
      tally = c.self.inside.common.tally;
      spare = map g.P.Pages.memory c.self.inside.spare.items;
    } in
    let spare : length v.spare ≡ length c.self.inside.spare.items = length-map c.self.inside.spare.items g.P.Pages.memory in
    let stores : stores_in v.lane_stores ≡ durable_count v.scenario.lanes = all_stores v c.self.invariant.0.standing.0 c.self.invariant.0.standing.1 c.self.invariant.0.lane_store_count in
    omega (arith, spare, stores, c.self.invariant.0.pages, c.self.invariant.0.run_card_count, c.give_pages.ensures.length)

pub give_stores-requires-clause-capacity : goal.give_stores-requires-clause-capacity
give_stores-requires-clause-capacity g c = omega (arith, c.self.invariant.1, c.give_pages.ensures.capacity)

pub returns-clause-bank : goal.returns-clause-bank
returns-clause-bank g c = λ w stands.
    let v : WorldSeen = record {
      scenario = c.self.inside.scenario.now;
      run_cards = c.self.inside.run_cards.items;
      lanes = c.self.inside.lanes.items;
      lane_stores = c.self.inside.lane_stores.items;
      host = c.self.inside.common.host;
      tally = c.self.inside.common.tally;
      spare = map g.P.Pages.memory c.self.inside.spare.items;
    } in
    let seen : WorldStands v w = subst (λ (x : WorldSeen). WorldStands x w) (sym c.self.view_is) stands in
    let spare : length v.spare ≡ length c.self.inside.spare.items = length-map c.self.inside.spare.items g.P.Pages.memory in
    let stores : stores_in v.lane_stores ≡ durable_count v.scenario.lanes = all_stores v w seen c.self.invariant.0.lane_store_count in
    let before = map g.P.Pages.memory c.give_pages.result.items in
    let count : length before ≡ length c.give_pages.result.items = length-map c.give_pages.result.items g.P.Pages.memory in
    let whole : length before + stores_in v.lane_stores ≡ 64 =
    omega (arith, spare, stores, count, c.self.invariant.0.pages, c.self.invariant.0.run_card_count, c.give_pages.ensures.length, c.give_pages.result.ok.0) in
    let given = c.give_stores.ensures.given in
    subst (λ (x : WorldSeen). BankStands x.scenario w (map g.P.Pages.memory c.give_stores.result.items)) c.self.view_is
    (subst (λ bank. BankStands v.scenario w bank) (sym given.2)
    (bank_stands v w seen c.self.invariant.0.run_card_count c.self.invariant.0.lane_store_count c.self.invariant.0.scenario.tables.few_lanes c.self.invariant.0.scenario.tables.rooms
    before given.0 c.give_pages.ensures.given
    (subst (λ ms. All IsBlank ms) (sym c.give_pages.ensures.spare) c.self.invariant.0.blank) given.1 whole))
