use Rattle.std.proofs.Common.{◌≡◌, ◌<◌, List, length, slice_get, Some, sym, ap, ◌∙◌, subst, arith, rules}
use Rattle.std.proofs.lemmas.List.{length-map}
use Rattle.std.proofs.lemmas.Option.{slice_get_past}
use Rattle.scenario_plan.specs.Cards.{CardData}
use Rattle.scenario_plan.specs.Plan.{ScenarioData}
use Rattle.scenario_plan.specs.SeenCards.{seen_card, seen_cards}
use Rattle.scenario_lanes.specs.Plan.{LaneData}
use Rattle.scenario_lanes.specs.declared.plan.Planned.{Planned}
use Rattle.txn_replay.specs.Payment.{payment_with}
use Rattle.txn_replay.proofs.AuditLaws.AuditWorlds.{short_name}
use Rattle.txn_replay.proofs.AuditLaws.AuditNumbers.{seen_at}
use Rattle.txn_replay.proofs.Lists.{found_at, is_within, is_past}
use Rattle.txn_replay.proofs.ExchangeLaws.PurchaseFacts.{payment_is, payment_none, planned_card}
use Rattle.txn_replay.proofs.purchases.payment_at.Goals as goal

pub returns-in-Some-clause-payment : goal.returns-in-Some-clause-payment
returns-in-Some-clause-payment c =
    let terminal : LaneData = record { settings = c.terminal.inside.settings; purchases = c.terminal.inside.purchases.items; iso = c.terminal.inside.iso; durable = c.terminal.inside.durable } in
    let lanes : c.scenario.inside.lanes.items ≡ c.args.scenario.now.lanes = ap (λ (s : ScenarioData). s.lanes) c.scenario.view_is in
    let cards : seen_cards c.scenario.inside.cards.items ≡ c.args.scenario.now.cards = ap (λ (s : ScenarioData). s.cards) c.scenario.view_is in
    let within : c.args.lane < length c.scenario.inside.lanes.items = subst (λ (xs : List LaneData). c.args.lane < length xs) (sym lanes) c.requires.lane in
    let lane_there : slice_get c.args.scenario.now.lanes c.args.lane ≡ Some terminal =
    ap (λ (xs : List LaneData). slice_get xs c.args.lane) (sym lanes)
    ∙ found_at c.scenario.inside.lanes.items c.args.lane c.index-terminal.result.now within c.index-terminal.ensures
    ∙ ap (λ (x : LaneData). Some x) (sym c.terminal.view_is) in
    let planned_there : slice_get terminal.purchases c.args.number ≡ Some c.in-Some.planned.now =
    ap (λ (xs : List Planned). slice_get xs c.args.number) (sym c.deref.ensures.value)
    ∙ found_at c.deref.result.now c.args.number c.in-Some.planned.now (is_within _ _ c.in-Some.ensures.lookup.0) c.in-Some.ensures.lookup.1 in
    let below : c.in-Some.planned.now.card < length c.args.scenario.now.cards =
    planned_card c.args.scenario.now c.args.lane c.args.number terminal c.in-Some.planned.now c.requires.scenario lane_there planned_there in
    let count : length c.args.scenario.now.cards ≡ length c.scenario.inside.cards.items =
    ap (λ (cs : List CardData). length cs) (sym cards) ∙ length-map c.scenario.inside.cards.items seen_card in
    let card_there : slice_get c.args.scenario.now.cards c.in-Some.planned.now.card ≡ Some (seen_card c.index.result.now) =
    ap (λ (cs : List CardData). slice_get cs c.in-Some.planned.now.card) (sym cards)
    ∙ seen_at c.scenario.inside.cards.items c.in-Some.planned.now.card c.index.result.now
    (found_at c.scenario.inside.cards.items c.in-Some.planned.now.card c.index.result.now (omega (arith, below, count)) c.index.ensures) in
    let copies : c.scenario.inside.copies ≡ c.args.scenario.now.copies = ap (λ (s : ScenarioData). s.copies) c.scenario.view_is in
    ap (λ n. Some (record (payment_with c.args.scenario.now c.args.lane terminal c.in-Some.planned.now (seen_card c.index.result.now)) { copies = n })) copies
    ∙ sym (payment_is c.args.scenario.now c.args.lane c.args.number terminal c.in-Some.planned.now (seen_card c.index.result.now) lane_there planned_there card_there)

pub invariant_of-result : goal.invariant_of-result
unfolding seen_card
invariant_of-result c =
    let terminal : LaneData = record { settings = c.terminal.inside.settings; purchases = c.terminal.inside.purchases.items; iso = c.terminal.inside.iso; durable = c.terminal.inside.durable } in
    let lanes : c.scenario.inside.lanes.items ≡ c.args.scenario.now.lanes = ap (λ (s : ScenarioData). s.lanes) c.scenario.view_is in
    let cards : seen_cards c.scenario.inside.cards.items ≡ c.args.scenario.now.cards = ap (λ (s : ScenarioData). s.cards) c.scenario.view_is in
    let within : c.args.lane < length c.scenario.inside.lanes.items = subst (λ (xs : List LaneData). c.args.lane < length xs) (sym lanes) c.requires.lane in
    let lane_there : slice_get c.args.scenario.now.lanes c.args.lane ≡ Some terminal =
    ap (λ (xs : List LaneData). slice_get xs c.args.lane) (sym lanes)
    ∙ found_at c.scenario.inside.lanes.items c.args.lane c.index-terminal.result.now within c.index-terminal.ensures
    ∙ ap (λ (x : LaneData). Some x) (sym c.terminal.view_is) in
    let planned_there : slice_get terminal.purchases c.args.number ≡ Some c.in-Some.planned.now =
    ap (λ (xs : List Planned). slice_get xs c.args.number) (sym c.deref.ensures.value)
    ∙ found_at c.deref.result.now c.args.number c.in-Some.planned.now (is_within _ _ c.in-Some.ensures.lookup.0) c.in-Some.ensures.lookup.1 in
    let below : c.in-Some.planned.now.card < length c.args.scenario.now.cards =
    planned_card c.args.scenario.now c.args.lane c.args.number terminal c.in-Some.planned.now c.requires.scenario lane_there planned_there in
    let count : length c.args.scenario.now.cards ≡ length c.scenario.inside.cards.items =
    ap (λ (cs : List CardData). length cs) (sym cards) ∙ length-map c.scenario.inside.cards.items seen_card in
    let card_there : slice_get c.args.scenario.now.cards c.in-Some.planned.now.card ≡ Some (seen_card c.index.result.now) =
    ap (λ (cs : List CardData). slice_get cs c.in-Some.planned.now.card) (sym cards)
    ∙ seen_at c.scenario.inside.cards.items c.in-Some.planned.now.card c.index.result.now
    (found_at c.scenario.inside.cards.items c.in-Some.planned.now.card c.index.result.now (omega (arith, below, count)) c.index.ensures) in
    record {
      fits = record {
        terminal = search rules;
        plan = search rules;
        short = short_name c.args.scenario.now c.requires.scenario c.in-Some.planned.now.card (seen_card c.index.result.now) card_there;
        one_copy = search rules;
        few_copies = search rules;
      };
    }

pub returns-in-None-clause-payment : goal.returns-in-None-clause-payment
returns-in-None-clause-payment c =
    let terminal : LaneData = record { settings = c.terminal.inside.settings; purchases = c.terminal.inside.purchases.items; iso = c.terminal.inside.iso; durable = c.terminal.inside.durable } in
    let lanes : c.scenario.inside.lanes.items ≡ c.args.scenario.now.lanes = ap (λ (s : ScenarioData). s.lanes) c.scenario.view_is in
    let cards : seen_cards c.scenario.inside.cards.items ≡ c.args.scenario.now.cards = ap (λ (s : ScenarioData). s.cards) c.scenario.view_is in
    let within : c.args.lane < length c.scenario.inside.lanes.items = subst (λ (xs : List LaneData). c.args.lane < length xs) (sym lanes) c.requires.lane in
    let lane_there : slice_get c.args.scenario.now.lanes c.args.lane ≡ Some terminal =
    ap (λ (xs : List LaneData). slice_get xs c.args.lane) (sym lanes)
    ∙ found_at c.scenario.inside.lanes.items c.args.lane c.index-terminal.result.now within c.index-terminal.ensures
    ∙ ap (λ (x : LaneData). Some x) (sym c.terminal.view_is) in
    sym (payment_none c.args.scenario.now c.args.lane c.args.number terminal lane_there
    (ap (λ (xs : List Planned). slice_get xs c.args.number) (sym c.deref.ensures.value)
    ∙ slice_get_past c.deref.result.now c.args.number (is_past _ _ c.in-None.ensures.lookup.0)))
