use Rattle.std.proofs.Common.{◌≡◌, ◌≤◌, List, length, map, sym, ap, ◌∙◌, subst, arith}
use Rattle.std.specs.List.{All}
use Rattle.std.proofs.lemmas.List.{length-map}
use Rattle.std.proofs.lemmas.List.Elements.{All-drop}
use Rattle.emv_ports.specs.Memory.{Memory, IsBlank}
use Rattle.scenario_plan.specs.Cards.{IsKind, CardData}
use Rattle.scenario_plan.specs.Plan.{ScenarioData}
use Rattle.scenario_plan.specs.SeenCards.{seen_card, seen_cards}
use Rattle.scenario_plan.specs.declared.plan.NamedCard.{NamedCard}
use Rattle.scenario_lanes.specs.Plan.{LaneData, HaveRoom}
use Rattle.txn_replay.specs.Banked.{AreNew, AreNewStores}
use Rattle.txn_replay.specs.Seen.{WorldSeen, WorldStands}
use Rattle.txn_replay.specs.World.{first_world}
use Rattle.txn_replay.proofs.TurnLaws.FirstValue.{first_stands, fit_all}
use Rattle.txn_replay.proofs.PageLaws.StorePagesBack.{all_stores}
use Rattle.txn_replay.proofs.world.World.new.Goals as goal

pub take_pages-requires-clause-kinds : goal.take_pages-requires-clause-kinds
take_pages-requires-clause-kinds g c =
    let cards : seen_cards c.as_slice-2.result.now ≡ c.args.scenario.now.cards =
    ap (λ (xs : List NamedCard). seen_cards xs) c.as_slice-2.ensures.value ∙ ap (λ (s : ScenarioData). s.cards) c.scenario.view_is in
    subst (λ (xs : List CardData). All (λ card. IsKind card.image card.canned) xs) (sym cards) (λ k d within. (c.requires.scenario.tables.cards.each k d within).kind)

pub take_pages-requires-clause-pages : goal.take_pages-requires-clause-pages
take_pages-requires-clause-pages g c =
    let cards : seen_cards c.as_slice-2.result.now ≡ c.args.scenario.now.cards =
    ap (λ (xs : List NamedCard). seen_cards xs) c.as_slice-2.ensures.value ∙ ap (λ (s : ScenarioData). s.cards) c.scenario.view_is in
    let count : length c.args.scenario.now.cards ≡ length c.as_slice-2.result.now =
    ap (λ (cs : List CardData). length cs) (sym cards) ∙ length-map c.as_slice-2.result.now seen_card in
    let few : length c.args.scenario.now.cards ≤ 64 = c.requires.scenario.tables.cards.few in
    let lanes : c.as_slice.result.now ≡ c.args.scenario.now.lanes = c.as_slice.ensures.value ∙ ap (λ (s : ScenarioData). s.lanes) c.scenario.view_is in
    let room : HaveRoom (length c.args.scenario.now.cards) c.as_slice.result.now =
    subst (λ (ls : List LaneData). HaveRoom (length c.args.scenario.now.cards) ls) (sym lanes) c.requires.scenario.tables.rooms in
    omega (arith, count, few, c.take_stores.ensures.left (length c.args.scenario.now.cards) few room)

pub invariant_of-result : goal.invariant_of-result
invariant_of-result g c =
    let v : WorldSeen = record {
      scenario = c.args.scenario.now;
      run_cards = c.take_pages.new.run_cards.items;
      lanes = c.in-Some.parts.lanes.items;
      lane_stores = c.take_stores.new.lane_stores.items;
      host = c.in-Some.parts.host;
      tally = c.new.result;
      spare = map g.P.Pages.memory c.take_pages.new.bank.items;
    } in
    let cards : seen_cards c.as_slice-2.result.now ≡ c.args.scenario.now.cards =
    ap (λ (xs : List NamedCard). seen_cards xs) c.as_slice-2.ensures.value ∙ ap (λ (s : ScenarioData). s.cards) c.scenario.view_is in
    let lanes : c.as_slice.result.now ≡ c.args.scenario.now.lanes = c.as_slice.ensures.value ∙ ap (λ (s : ScenarioData). s.lanes) c.scenario.view_is in
    let lane_store_count : length v.lane_stores ≡ length v.scenario.lanes =
    sym c.take_stores.new.lane_stores.ok.0 ∙ c.take_stores.ensures.count ∙ ap (λ (ls : List LaneData). length ls) lanes in
    let stands : WorldStands v (first_world v.scenario) =
    first_stands v (subst (λ (xs : List CardData). AreNew xs c.take_pages.new.run_cards.items) cards c.take_pages.ensures.new) c.in-Some.ensures.new
    lane_store_count (subst (λ (xs : List LaneData). AreNewStores xs c.take_stores.new.lane_stores.items) lanes c.take_stores.ensures.new)
    c.in-Some.ensures.host.stands c.new.ensures in
    let count : length v.scenario.cards ≡ length c.as_slice-2.result.now =
    ap (λ (cs : List CardData). length cs) (sym cards) ∙ length-map c.as_slice-2.result.now seen_card in
    let spare : length v.spare ≡ length c.take_pages.new.bank.items = length-map c.take_pages.new.bank.items g.P.Pages.memory in (
      record {
        scenario = c.requires.scenario;
        run_card_count = sym c.take_pages.new.run_cards.ok.0 ∙ c.take_pages.ensures.count ∙ sym count;
        lane_count = sym c.in-Some.parts.lanes.ok.0 ∙ c.in-Some.ensures.count;
        lane_store_count = lane_store_count;
        fits = fit_all c.in-Some.parts.lanes.items c.in-Some.ensures.new;
        keys = c.in-Some.ensures.host.keys;
        accounts = c.in-Some.ensures.host.accounts;
        blank = subst (λ (ms : List Memory). All IsBlank ms) (sym c.take_pages.ensures.spare)
            (All-drop IsBlank (length c.as_slice-2.result.now) (map g.P.Pages.memory c.take_stores.new.bank.items) c.take_stores.ensures.bank.blank);
        pages = omega (arith, count, spare, all_stores v (first_world v.scenario) stands lane_store_count, c.take_stores.ensures.pages, c.take_pages.ensures.place, c.take_pages.new.bank.ok.0);
        standing = (first_world v.scenario, stands);
      },
      omega (arith, c.take_pages.ensures.capacity, c.take_stores.ensures.bank.same, c.requires.pages, c.args.bank.ok.0, c.args.bank.ok.1),
    )

pub returns-clause-stands : goal.returns-clause-stands
returns-clause-stands g c =
    let v : WorldSeen = record {
      scenario = c.args.scenario.now;
      run_cards = c.take_pages.new.run_cards.items;
      lanes = c.in-Some.parts.lanes.items;
      lane_stores = c.take_stores.new.lane_stores.items;
      host = c.in-Some.parts.host;
      tally = c.new.result;
      spare = map g.P.Pages.memory c.take_pages.new.bank.items;
    } in
    let cards : seen_cards c.as_slice-2.result.now ≡ c.args.scenario.now.cards =
    ap (λ (xs : List NamedCard). seen_cards xs) c.as_slice-2.ensures.value ∙ ap (λ (s : ScenarioData). s.cards) c.scenario.view_is in
    let lanes : c.as_slice.result.now ≡ c.args.scenario.now.lanes = c.as_slice.ensures.value ∙ ap (λ (s : ScenarioData). s.lanes) c.scenario.view_is in
    let lane_store_count : length v.lane_stores ≡ length v.scenario.lanes =
    sym c.take_stores.new.lane_stores.ok.0 ∙ c.take_stores.ensures.count ∙ ap (λ (ls : List LaneData). length ls) lanes in
    let stands : WorldStands v (first_world v.scenario) =
    first_stands v (subst (λ (xs : List CardData). AreNew xs c.take_pages.new.run_cards.items) cards c.take_pages.ensures.new) c.in-Some.ensures.new
    lane_store_count (subst (λ (xs : List LaneData). AreNewStores xs c.take_stores.new.lane_stores.items) lanes c.take_stores.ensures.new)
    c.in-Some.ensures.host.stands c.new.ensures in
    stands
