-- A value and its world before and after an exchange of a lane.
-- All lanes, cards and stores but its own stay as they were.
use Rattle.std.proofs.Common.{◌≡◌, ℕ, ◌<◌, Bool, true, false, List, length, set, slice_get, Option, Some, None, refl, sym, ap, ◌∙◌, subst, inl, inr, arith}
use Rattle.std.specs.Global.{Box}
use Rattle.std.specs.Prelude.{is_none, is_some}
use Rattle.std.proofs.lemmas.Option.{same_Some, slice_get_within}
use Rattle.capture_store.specs.SeenLaneStore.{LaneStoreSeen}
use Rattle.card_app.specs.SeenIcc.{IccSeen, IccOn, icc_is_powered as icc_on}
use Rattle.card_app.specs.Session.{Exchange}
use Rattle.card_state.specs.Decisions.{Decided}
use Rattle.emv_ports.specs.declared.tear.Tear.{Tear}
use Rattle.issuer_host.specs.History.{HostData, HostStands}
use Rattle.kernel.specs.Kernel.{KernelData}
use Rattle.kernel.specs.Reply.{Reply}
use Rattle.kernel.specs.Tally.{Counts}
use Rattle.report_text.specs.declared.line.Line.{Line}
use Rattle.scenario_plan.specs.Cards.{CardData}
use Rattle.scenario_plan.specs.Plan.{ScenarioData}
use Rattle.txn_replay.specs.Part.{Part, Moved}
use Rattle.txn_replay.specs.Payment.{Payment, payment_in, next_of}
use Rattle.txn_replay.specs.Seen.{WorldSeen, plan_in, plan_for, RunCardStands, terminal_plan, LaneStoreAt, RunFor, LaneAt, WorldStands, EventHasLed}
use Rattle.txn_replay.specs.RunCard.{RunCardSeen, OfApps, OfCanned, RunCardOn, run_card_is_powered}
use Rattle.txn_replay.specs.Sound.{IsWorldSound}
use Rattle.txn_replay.specs.Standing.{RunStands, LaneStands, PlaceStands, CardStands, PlaceFor, LaneStoreFor, PartStands, ExchangeIsCounted, counted_ends}
use Rattle.txn_replay.specs.Steps.{After, part_of, lane_moved, turned_by, happens}
use Rattle.txn_replay.specs.Stored.{StoredBy, StoresStand}
use Rattle.txn_replay.specs.Storing.{lane_piece}
use Rattle.txn_replay.specs.World.{Holder, CardRow, LaneRow, World, new_card, new_lane, card_at, lane_at}
use Rattle.txn_replay.specs.declared.event.Event.TheVariants.{Turn}
use Rattle.txn_replay.specs.declared.lane.Lane.{Lane}
use Rattle.txn_replay.proofs.RunLaws.TruthValues.{BothTaken, choices_taken}
use Rattle.txn_replay.proofs.RunLaws.FewEvents.{LanesFew, turn_few}
use Rattle.txn_replay.proofs.RunLaws.EventsLead.{leads_on}
use Rattle.txn_replay.proofs.Lists.{set_both}
use Rattle.txn_replay.proofs.ExchangeLaws.LaneMoves.{Outcome, kept, moves, lane_outcome, this_one}
use Rattle.txn_replay.proofs.ExchangeLaws.PurchaseFacts.{payment_facts}
use Rattle.txn_replay.proofs.StoreLaws.StorePlans.{lane_planned, lane_store_placed, lane_store_stands}
use Rattle.txn_replay.proofs.RunLaws.SoundWorlds.{turn_sound, has_card}
use Rattle.txn_replay.proofs.StoreLaws.StoresKept.{turn_stand}
use Rattle.txn_replay.proofs.ExchangeLaws.PurchasesCounted.{counts_with}
use Rattle.txn_replay.proofs.RunLaws.TurnsEnd.{not_over}

icc_is_on : (icc : IccSeen) (session : List Exchange) (ds : List Decided) (plan : Option Tear) (made : ℕ) → IccOn icc session ds plan made → icc_on icc ≡ true
icc_is_on icc session ds plan made on = on.on

pub run_card_is_on : (run_card : RunCardSeen) (row : CardRow) (plan : Option Tear) → RunCardOn run_card row plan → run_card_is_powered run_card ≡ true
run_card_is_on (OfApps icc) row plan on = icc_is_on icc row.session row.kept plan row.made on.0
run_card_is_on (OfCanned canned) row plan on = ap is_some on

-- the plan of a purchase that has its card
plan_is : (s : ScenarioData) (w : World) (l : ℕ) (p : Payment) → next_of s w l ≡ Some p → plan_for s (Some (this_one p (part_of w l p.planned.card))) ≡ p.planned.tear
plan_is s w l p is =
    ap (λ k. plan_in (payment_in s k (length (lane_at w l).ended))) (payment_facts s l _ p is).lane ∙ ap plan_in is

-- its card, which isn't an audited one
pub card_stands : (v : WorldSeen) (w : World) → WorldStands v w → (l : ℕ) (p : Payment) → next_of v.scenario w l ≡ Some p → (run_card : RunCardSeen)
    → slice_get v.run_cards p.planned.card ≡ Some run_card → CardStands run_card p.card (plan_for v.scenario (card_at w p.planned.card).holder) (card_at w p.planned.card)
card_stands v w stands l p is run_card run_card_there =
    elim (stands.run_cards p.planned.card run_card p.card run_card_there (payment_facts v.scenario l _ p is).card) [
      | inl here ↦ here
      | inr audited ↦ absurd (not_over v.scenario w l p is audited.over)
    ]

module _ (v : WorldSeen) (w : World) (stands : WorldStands v w) (l : ℕ) (p : Payment) (is : next_of v.scenario w l ≡ Some p) (lane : Lane) (lane_store : LaneStoreSeen) (run_card : RunCardSeen)
    (lane_there : slice_get v.lanes l ≡ Some lane) (lane_store_there : slice_get v.lane_stores l ≡ Some lane_store) (run_card_there : slice_get v.run_cards p.planned.card ≡ Some run_card) where
  abbrev part : Part
  part = part_of w l p.planned.card

  card_there : slice_get v.scenario.cards p.planned.card ≡ Some p.card
  card_there = (payment_facts v.scenario l _ p is).card

  placed_card : CardStands run_card p.card (plan_for v.scenario (card_at w p.planned.card).holder) (card_at w p.planned.card)
  placed_card = card_stands v w stands l p is run_card run_card_there

  lane_stands : LaneStands lane p (lane_at w l)
  lane_stands =
      let at : LaneAt v.scenario l lane (lane_at w l) = stands.lanes l lane lane_there in
      record { keeps = at.keeps; running = subst (λ (o : Option Payment). RunFor lane (lane_at w l) o) is at.runs }

  placed : (holder : Option Holder) (running : Option (List Reply)) → (card_at w p.planned.card).holder ≡ holder → (lane_at w l).running ≡ running
      → PlaceStands run_card (plan_for v.scenario holder) (card_at w p.planned.card) holder → PlaceFor p run_card (card_at w p.planned.card) holder running
  placed None None held ran here = here
  placed (Some holder) None held ran here = run_card_is_on run_card (card_at w p.planned.card) _ here
  placed None (Some replies) held ran here =
      let has : None ≡ Some (this_one p part) = sym held ∙ has_card v.scenario w l p stands.sound is replies ran in cc
  placed (Some holder) (Some replies) held ran here =
      let same : holder ≡ this_one p part = same_Some holder (this_one p part) (sym held ∙ has_card v.scenario w l p stands.sound is replies ran) in
      let plan : plan_for v.scenario (Some holder) ≡ p.planned.tear = ap (λ (h : Holder). plan_for v.scenario (Some h)) same ∙ plan_is v.scenario w l p is in
      subst (λ (tear : Option Tear). RunCardOn run_card (card_at w p.planned.card) tear) plan here

  -- before every purchase is over no store is opened for settlement
  first : (lane_at w l).store.found ≡ None
  first = elim (stands.stored.before l) [ inl none ↦ none | inr over ↦ absurd (not_over v.scenario w l p is over) ]

  pub part_stands : PartStands p lane lane_store run_card (part_of w l p.planned.card)
  part_stands = record {
    lane_is = lane_stands;
    lane_store_is = lane_store_stands v.scenario l p (lane_at w l) is lane_store (stands.lane_stores l lane_store lane_store_there);
    stored = subst (λ (b : Bool). StoredBy b (lane_at w l)) (sym (payment_facts v.scenario l _ p is).durable) (stands.stored.lanes l);
    before = first;
    place = placed (card_at w p.planned.card).holder (lane_at w l).running refl refl placed_card.stands;
    is = placed_card.is;
    losses = placed_card.losses;
  }

  module _ (later : Lane) (behind : LaneStoreSeen) (next : RunCardSeen) (host : HostData) (tally : Counts) (lines : List Line) (one other : Bool)
      (led : ExchangeIsCounted p later behind next v.tally tally lines part (lane_piece p part one other)) (messages : HostStands host (lane_piece p part one other).part.messages)
      (free : (h : Holder) → (card_at w p.planned.card).holder ≡ Some h → h ≡ this_one p part) where
    abbrev m : Moved
    m = lane_piece p part one other

    abbrev after : World
    after = (lane_moved w l p.planned.card m).world

    abbrev value : WorldSeen
    value = record v { run_cards = set v.run_cards p.planned.card next; lanes = set v.lanes l later; lane_stores = set v.lane_stores l behind; host = host; tally = tally }

    came : Outcome p part m.part
    came = lane_outcome p part one other (has_card v.scenario w l p stands.sound is)

    -- who has the card afterwards is this purchase
    holds : (h : Holder) → m.part.card.holder ≡ Some h → h ≡ this_one p part
    holds h has = by came
      where
        by : Outcome p part m.part → h ≡ this_one p part
        by (kept same) = free h (ap (λ (x : Part). x.card.holder) (sym same) ∙ has)
        by (moves so) = (so.held h has).0

    -- and what runs is its dialogue
    goes_on : (replies : List Reply) → m.part.lane.running ≡ Some replies → length m.part.lane.ended ≡ length (lane_at w l).ended
    goes_on replies ran = by came
      where
        by : Outcome p part m.part → length m.part.lane.ended ≡ length (lane_at w l).ended
        by (kept same) = ap (λ (x : Part). length x.lane.ended) same
        by (moves so) = (so.ran replies ran).1

    inside : l < length w.lanes
    inside =
        let a : l < length v.scenario.lanes = (payment_facts v.scenario l _ p is).inside in
        let b : length w.lanes ≡ length v.scenario.lanes = stands.sound.lane_count in
        omega arith

    card_inside : p.planned.card < length w.cards
    card_inside =
        let a : p.planned.card < length v.scenario.cards = slice_get_within v.scenario.cards p.planned.card p.card card_there in
        let b : length w.cards ≡ length v.scenario.cards = stands.sound.card_count in
        omega arith

    -- its plan
    planned_as : (holder : Option Holder) → m.part.card.holder ≡ holder → PlaceStands next p.planned.tear m.part.card holder
        → PlaceStands next (plan_for v.scenario holder) m.part.card holder
    planned_as None has off = off
    planned_as (Some h) has on =
        let same : plan_for v.scenario (Some h) ≡ p.planned.tear =
        ap (λ (x : Holder). plan_for v.scenario (Some x)) (holds h has) ∙ plan_is v.scenario w l p is in
        subst (λ (tear : Option Tear). RunCardOn next m.part.card tear) (sym same) on

    run_card_after : RunCardStands v.scenario after next p.card m.part.card
    run_card_after = inl (record {
      is = led.moved.card.is;
      losses = led.moved.card.losses;
      stands = planned_as m.part.card.holder refl led.moved.card.stands;
    })

    run_cards_after : (i : ℕ) (run_card : RunCardSeen) → slice_get value.run_cards i ≡ Some run_card → (card : CardData) → slice_get v.scenario.cards i ≡ Some card
        → RunCardStands v.scenario after run_card card (card_at after i)
    run_cards_after =
        set_both (λ (i : ℕ) (x : RunCardSeen) (r : CardRow). (card : CardData) → slice_get v.scenario.cards i ≡ Some card → RunCardStands v.scenario after x card r)
        v.run_cards w.cards p.planned.card next m.part.card new_card card_inside
        (λ card its. subst (λ (c : CardData). RunCardStands v.scenario after next c m.part.card) (same_Some p.card card (sym card_there ∙ its)) run_card_after)
        (λ i x there. λ card its.
        elim (stands.run_cards i x card there its) [ inl here ↦ inl here | inr audited ↦ absurd (not_over v.scenario w l p is audited.over) ])

    -- a lane whose purchase goes on, or has ended
    run_after : (o : Option Payment) → payment_in v.scenario l (length m.part.lane.ended) ≡ o → (running : Option (List Reply)) → m.part.lane.running ≡ running
        → RunStands later.running p running → RunFor later m.part.lane o
    run_after o next_is None ran none = by o
      where
        rests : (kernel : Option (Box KernelData)) → later.running ≡ kernel → RunStands kernel p None → later.running ≡ None
        rests None k is_none = k
        rests (Some kernel) k is_none = absurd is_none

        by : (o : Option Payment) → RunFor later m.part.lane o
        by None = rests later.running refl none
        by (Some q) =
            subst (λ (r : Option (List Reply)). RunStands later.running q r) (sym ran)
            (subst (λ (k : Option (Box KernelData)). RunStands k q None) (sym (rests later.running refl none)) tt)
    run_after o next_is (Some replies) ran on =
        let same : o ≡ Some p = sym next_is ∙ ap (λ k. payment_in v.scenario l k) (goes_on replies ran) ∙ is in
        subst (λ (x : Option Payment). RunFor later m.part.lane x) (sym same)
        (subst (λ (r : Option (List Reply)). RunStands later.running p r) (sym ran) on)

    lane_after : LaneAt v.scenario l later m.part.lane
    lane_after = record {
      keeps = led.moved.lane_is.keeps;
      runs = run_after (payment_in v.scenario l (length m.part.lane.ended)) refl m.part.lane.running refl led.moved.lane_is.running;
    }

    lanes_after : (k : ℕ) (lane : Lane) → slice_get value.lanes k ≡ Some lane → LaneAt v.scenario k lane (lane_at after k)
    lanes_after =
        set_both (λ (k : ℕ) (x : Lane) (r : LaneRow). LaneAt v.scenario k x r) v.lanes w.lanes l later m.part.lane new_lane inside lane_after stands.lanes

    -- its store
    planned_so : (durable : Bool) → p.durable ≡ durable → LaneStoreFor behind m.part.lane p.planned.terminal_tear durable → LaneStoreAt v.scenario l behind m.part.lane
    planned_so true durable on =
        lane_store_placed v.scenario l p (length (lane_at w l).ended) is behind m.part.lane (lane_planned p part one other durable)
        (subst (λ (b : Bool). LaneStoreFor behind m.part.lane p.planned.terminal_tear b) (sym durable) on)
    planned_so false durable none =
        subst (λ (b : Bool). LaneStoreFor behind m.part.lane (terminal_plan (payment_in v.scenario l (length m.part.lane.ended))) b)
        (sym durable ∙ (payment_facts v.scenario l _ p is).durable) none

    lane_stores_after : (k : ℕ) (own : LaneStoreSeen) → slice_get value.lane_stores k ≡ Some own → LaneStoreAt v.scenario k own (lane_at after k)
    lane_stores_after =
        set_both (λ (k : ℕ) (x : LaneStoreSeen) (r : LaneRow). LaneStoreAt v.scenario k x r) v.lane_stores w.lanes l behind m.part.lane new_lane inside
        (planned_so p.durable refl led.moved.lane_store_is) stands.lane_stores

    taken : BothTaken (λ a b. lane_piece p part a b) one other
    taken = choices_taken p part one other

    turned_is : happens v.scenario w (Turn l) taken.choices ≡ lane_moved w l p.planned.card m
    turned_is = ap (λ (o : Option Payment). turned_by w l taken.choices o) is ∙ ap (λ (x : Moved). lane_moved w l p.planned.card x) taken.same

    after_stands : WorldStands value after
    after_stands = record {
      sound = subst (λ (x : After). IsWorldSound v.scenario x.world) turned_is (turn_sound v.scenario w l taken.choices stands.sound);
      few = subst (λ (x : Moved). LanesFew v.scenario (lane_moved w l p.planned.card x).world) taken.same
          (turn_few v.scenario w l taken.choices (Some p) is stands.few);
      run_cards = λ i run_card card there its. run_cards_after i run_card there card its;
      lanes = lanes_after;
      lane_stores = lane_stores_after;
      stored = subst (λ (x : After). StoresStand v.scenario x.world) turned_is (turn_stand v.scenario w l taken.choices stands.stored);
      messages = messages;
      tally = led.counted.2 ∙ ap (λ (c : Counts). counted_ends c led.counted.0) stands.tally
          ∙ sym (counts_with w after l m.part.lane led.counted.0 inside refl led.counted.1 led.counted.3);
    }

    pub turn_goes : EventHasLed value w (Turn l) lines
    turn_goes =
        leads_on value w (Turn l) taken.choices lines (lane_moved w l p.planned.card m) turned_is
        (taken.count ∙ ap (λ (x : Moved). (lane_moved w l p.planned.card x).choices) taken.same) led.moved.lines_are after_stands
