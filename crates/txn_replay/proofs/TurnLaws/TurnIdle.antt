-- A turn of a lane, by the values.
-- It waits, or goes on, by what the values show: exactly where the definitions say so.
use Rattle.std.proofs.Common.{◌≡◌, ℕ, Bool, true, false, ◌&&◌, List, [], set, slice_get, Option, Some, None, Result, Ok, Err, refl, sym, ◌∙◌, subst, inl, inr}
use Rattle.std.specs.Global.{Box}
use Rattle.std.specs.Prelude.{is_none, OnErr}
use Rattle.std.proofs.lemmas.Bool.{both_ways}
use Rattle.std.proofs.lemmas.Option.{same_Some}
use Rattle.capture_store.specs.SeenLaneStore.{LaneStoreSeen}
use Rattle.card_state.specs.Decisions.{Decided}
use Rattle.kernel.specs.Kernel.{KernelData}
use Rattle.kernel.specs.Reply.{Reply}
use Rattle.scenario_plan.specs.Cards.{CardData}
use Rattle.txn_replay.specs.Payment.{Payment, next_of}
use Rattle.txn_replay.specs.Seen.{WorldSeen, RunCardStands, LaneStoreAt, RunFor, LaneAt, WorldStands, EventHasLed, plan_for}
use Rattle.txn_replay.specs.RunCard.{RunCardSeen, RunCardOff, run_card_is_powered}
use Rattle.txn_replay.specs.Sound.{RunsIn, IsIdle}
use Rattle.txn_replay.specs.Standing.{PlaceFor, PlaceStands, CardStands, PartStands, SameLane, RunStands}
use Rattle.txn_replay.specs.Steps.{part_of, no_event}
use Rattle.txn_replay.specs.World.{Holder, World, card_at, lane_at}
use Rattle.txn_replay.specs.declared.event.Event.TheVariants.{Turn}
use Rattle.txn_replay.specs.declared.lane.Lane.{Lane}
use Rattle.txn_replay.proofs.RunLaws.EventsLead.{leads_on}
use Rattle.txn_replay.proofs.Lists.{set_one}
use Rattle.txn_replay.proofs.ExchangeLaws.LaneMoves.{this_one}
use Rattle.txn_replay.proofs.ExchangeLaws.TurnPieces.{keeps_same}
use Rattle.txn_replay.proofs.RunLaws.SoundWorlds.{has_card}
use Rattle.txn_replay.proofs.TurnLaws.TurnWorlds.{card_stands}
use Rattle.txn_replay.proofs.TurnLaws.WorldTold.{lane_rests}
use Rattle.txn_replay.proofs.RunLaws.TurnsEnd.{idle_stays}

-- a lane without a purchase left
pub idle_without : (v : WorldSeen) (w : World) → WorldStands v w → (l : ℕ) → next_of v.scenario w l ≡ None → IsIdle v.scenario w l
idle_without v w stands l none = record { rests = by (lane_at w l).running refl; waits = inl none }
  where
    by : (o : Option (List Reply)) → (lane_at w l).running ≡ o → (lane_at w l).running ≡ None
    by None ran = ran
    by (Some replies) ran =
        let runs : RunsIn v.scenario w l = stands.sound.runs l replies ran in
        let both : None ≡ Some runs.payment = sym none ∙ runs.is in cc

-- in a lane that waits nothing happens
pub idle_goes : (v : WorldSeen) (w : World) → WorldStands v w → (l : ℕ) → IsIdle v.scenario w l → EventHasLed v w (Turn l) []
idle_goes v w stands l idle = leads_on v w (Turn l) [] [] (no_event w) (idle_stays v.scenario w l [] idle) refl refl stands

both_true : (a b : Bool) → (a && b) ≡ true → (a ≡ true) × (b ≡ true)
both_true true true is = (refl, refl)
both_true true false is = cc
both_true false b is = cc

none_is : (o : Option (Box KernelData)) → is_none o ≡ true → o ≡ None
none_is None is = refl
none_is (Some kernel) is = cc

module _ (v : WorldSeen) (w : World) (stands : WorldStands v w) (l : ℕ) (p : Payment) (is : next_of v.scenario w l ≡ Some p) (lane : Lane) (run_card : RunCardSeen) where
  -- a lane whose next purchase waits for its card
  pub idle_held : slice_get v.lanes l ≡ Some lane → slice_get v.run_cards p.planned.card ≡ Some run_card
      → (held : Bool) → held ≡ (is_none lane.running && run_card_is_powered run_card) → held ≡ true
      → ((kept : List Decided) (pending : Option Decided) → RunCardOff run_card kept pending → held ≡ false) → IsIdle v.scenario w l
  idle_held lane_there run_card_there held exact waits off =
      let both : (is_none lane.running ≡ true) × (run_card_is_powered run_card ≡ true) = both_true (is_none lane.running) (run_card_is_powered run_card) (sym exact ∙ waits) in
      let placed : CardStands run_card p.card (plan_for v.scenario (card_at w p.planned.card).holder) (card_at w p.planned.card) =
      card_stands v w stands l p is run_card run_card_there in
      by (card_at w p.planned.card).holder refl placed.stands (lane_rests v w stands l lane lane_there (none_is lane.running both.0))
    where
      by : (holder : Option Holder) → (card_at w p.planned.card).holder ≡ holder → PlaceStands run_card (plan_for v.scenario holder) (card_at w p.planned.card) holder
          → (lane_at w l).running ≡ None → IsIdle v.scenario w l
      by None has place rests = absurd (both_ways held (off (card_at w p.planned.card).kept (card_at w p.planned.card).pending place) waits)
      by (Some h) has place rests = record { rests = rests; waits = inr (record { payment = p; holder = h; is = is; held = has }) }

  -- the lane doesn't wait for a card that another purchase has
  not_waiting : (lane_store : LaneStoreSeen) → PartStands p lane lane_store run_card (part_of w l p.planned.card) → (is_none lane.running && run_card_is_powered run_card) ≡ false → (h : Holder)
      → (card_at w p.planned.card).holder ≡ Some h → (lane_at w l).running ≡ None → ⊥
  not_waiting lane_store part free h has ran =
      let on : run_card_is_powered run_card ≡ true =
      subst (λ (o : Option (List Reply)). PlaceFor p run_card (card_at w p.planned.card) (Some h) o) ran
      (subst (λ (x : Option Holder). PlaceFor p run_card (card_at w p.planned.card) x (lane_at w l).running) has part.place) in
      let run : RunStands lane.running p None = subst (λ (o : Option (List Reply)). RunStands lane.running p o) ran part.lane_is.running in
      waits lane.running refl run on
    where
      waits : (running : Option (Box KernelData)) → lane.running ≡ running → RunStands running p None → run_card_is_powered run_card ≡ true → ⊥
      waits None none run on =
          let held : (is_none lane.running && run_card_is_powered run_card) ≡ true = (λ i. is_none (none i) && on i) in both_ways (is_none lane.running && run_card_is_powered run_card) free held
      waits (Some kernel) some run on = absurd run

  -- no other purchase has the card then
  pub free_holder : (lane_store : LaneStoreSeen) → PartStands p lane lane_store run_card (part_of w l p.planned.card) → (is_none lane.running && run_card_is_powered run_card) ≡ false → (h : Holder)
      → (card_at w p.planned.card).holder ≡ Some h → h ≡ this_one p (part_of w l p.planned.card)
  free_holder lane_store part free h has = by (lane_at w l).running refl
    where
      by : (o : Option (List Reply)) → (lane_at w l).running ≡ o → h ≡ this_one p (part_of w l p.planned.card)
      by (Some replies) ran = same_Some h (this_one p (part_of w l p.planned.card)) (sym has ∙ has_card v.scenario w l p stands.sound is replies ran)
      by None ran = absurd (not_waiting lane_store part free h has ran)

  -- and the lane isn't idle
  pub never_idle : (lane_store : LaneStoreSeen) → PartStands p lane lane_store run_card (part_of w l p.planned.card) → (is_none lane.running && run_card_is_powered run_card) ≡ false
      → IsIdle v.scenario w l → ⊥
  never_idle lane_store part free idle =
      elim idle.waits [
        | inl none ↦ (let never : None ≡ Some p = sym none ∙ is in cc)
        | inr held ↦
            let same : held.payment ≡ p = same_Some held.payment p (sym held.is ∙ is) in
            not_waiting lane_store part free held.holder (subst (λ (x : Payment). (card_at w x.planned.card).holder ≡ Some held.holder) same held.held) idle.rests
      ]

-- nothing has changed but the room of a lane's vectors
pub same_stands : (v : WorldSeen) (w : World) → WorldStands v w → (l i : ℕ) (lane later : Lane) (lane_store behind : LaneStoreSeen) (run_card next : RunCardSeen)
    → slice_get v.lanes l ≡ Some lane → slice_get v.lane_stores l ≡ Some lane_store
    → slice_get v.run_cards i ≡ Some run_card → SameLane lane later → behind ≡ lane_store → next ≡ run_card
    → WorldStands (record v { run_cards = set v.run_cards i next; lanes = set v.lanes l later; lane_stores = set v.lane_stores l behind }) w
same_stands v w stands l i lane later lane_store behind run_card next lane_there lane_store_there run_card_there same unmoved unchanged = record {
  sound = stands.sound;
  few = stands.few;
  run_cards = λ j other card there its. run_cards j other there card its;
  lanes = lanes;
  lane_stores = lane_stores;
  stored = stands.stored;
  messages = record { books = stands.messages.books };
  tally = stands.tally;
}
  where
    run_cards : (j : ℕ) (other : RunCardSeen) → slice_get (set v.run_cards i next) j ≡ Some other → (card : CardData) → slice_get v.scenario.cards j ≡ Some card
        → RunCardStands v.scenario w other card (card_at w j)
    run_cards =
        set_one (λ (j : ℕ) (x : RunCardSeen). (card : CardData) → slice_get v.scenario.cards j ≡ Some card → RunCardStands v.scenario w x card (card_at w j)) v.run_cards i next
        (λ card its. subst (λ (x : RunCardSeen). RunCardStands v.scenario w x card (card_at w i)) (sym unchanged) (stands.run_cards i run_card card run_card_there its))
        (λ j x differs there. λ card its. stands.run_cards j x card there its)

    lane_stores : (k : ℕ) (own : LaneStoreSeen) → slice_get (set v.lane_stores l behind) k ≡ Some own → LaneStoreAt v.scenario k own (lane_at w k)
    lane_stores =
        set_one (λ (k : ℕ) (x : LaneStoreSeen). LaneStoreAt v.scenario k x (lane_at w k)) v.lane_stores l behind
        (subst (λ (x : LaneStoreSeen). LaneStoreAt v.scenario l x (lane_at w l)) (sym unmoved) (stands.lane_stores l lane_store lane_store_there))
        (λ k x differs there. stands.lane_stores k x there)

    run_same : (o : Option Payment) → RunFor lane (lane_at w l) o → RunFor later (lane_at w l) o
    run_same None none = same.running ∙ none
    run_same (Some p) run = subst (λ (k : Option (Box KernelData)). RunStands k p (lane_at w l).running) (sym same.running) run

    lane_same : LaneAt v.scenario l later (lane_at w l)
    lane_same =
        let before : LaneAt v.scenario l lane (lane_at w l) = stands.lanes l lane lane_there in
        record { keeps = keeps_same lane later (lane_at w l) same before.keeps; runs = run_same _ before.runs }

    lanes : (k : ℕ) (other : Lane) → slice_get (set v.lanes l later) k ≡ Some other → LaneAt v.scenario k other (lane_at w k)
    lanes = set_one (λ (k : ℕ) (x : Lane). LaneAt v.scenario k x (lane_at w k)) v.lanes l later lane_same (λ k x differs there. stands.lanes k x there)

pub on_err : {A E : Type 0} {Q : Type 0} (r : Result A E) → Q → OnErr r Q
on_err (Ok value) holds = tt
on_err (Err fault) holds = holds
