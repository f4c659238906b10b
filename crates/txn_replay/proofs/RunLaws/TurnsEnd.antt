-- Lanes that wait, and the end of the turns.
-- A lane that waits for a card waits for one that runs, so some lane always goes on: the laws `StuckIsOver` and `CalmIsOver`.
use Rattle.std.proofs.Common.{◌≡◌, ℕ, zero, suc, ◌⊎◌, ◌<◌, Bool, true, false, ◌&&◌, List, [], length, slice_get, Option, Some, None, refl, sym, ap, ◌∙◌, subst, inl, inr, arith}
use Rattle.std.proofs.lemmas.Bool.{and_from, cases_eq}
use Rattle.std.proofs.lemmas.List.{set-get_or}
use Rattle.kernel.specs.Reply.{Reply}
use Rattle.report_text.specs.declared.line.Line.{Line}
use Rattle.scenario_plan.specs.Plan.{ScenarioData}
use Rattle.std.specs.Prelude.{is_none}
use Rattle.txn_replay.specs.Part.{Part, Moved, still, purchase_begun, piece_by, piece}
use Rattle.txn_replay.specs.Storing.{free_by, runs_by, before_by, moved_behind, lane_piece}
use Rattle.txn_replay.specs.Payment.{Payment, next_of}
use Rattle.txn_replay.specs.Run.{RunPlace, Reached, start, scheduled, rounds, round, again, settlement, settling, audit, auditing, finished, lane_over, all_below, all_over}
use Rattle.txn_replay.specs.Sound.{IsWorldSound, HeldBy, IsCardInUse, IsIdle, IsCalm}
use Rattle.txn_replay.specs.Steps.{no_event, part_of, lane_moved, choice_in, turned_by, settlements, checks, happens}
use Rattle.txn_replay.specs.World.{Holder, World, new_card, new_lane, lane_at}
use Rattle.txn_replay.specs.declared.event.Event.TheVariants.{Turn}
use Rattle.txn_replay.proofs.ExchangeLaws.PurchaseFacts.{payment_facts}
use Rattle.txn_replay.proofs.ExchangeLaws.LaneMessages.{LanesLike, all_like, settle_like, audit_like}

-- an exchange that isn't one changes nothing
moved_still : (w : World) (l i : ℕ) → lane_moved w l i (still (part_of w l i)) ≡ no_event w
moved_still w l i = λ j. record {
  world = record { cards = set-get_or w.cards i new_card j; lanes = set-get_or w.lanes l new_lane j; messages = w.messages };
  lines = [];
  choices = 0;
}

-- its card is held, and it doesn't run
held_still : (p : Payment) (part : Part) (choice : Bool) (h : Holder) → part.lane.running ≡ None → part.card.holder ≡ Some h → piece p part choice ≡ still part
held_still p part choice h rests held =
    ap (λ (o : Option (List Reply)). piece_by p part choice o) rests ∙ ap (λ (o : Option Holder). purchase_begun p part choice o) held

lane_still : (p : Payment) (part : Part) (one other : Bool) (h : Holder) → part.lane.running ≡ None → part.card.holder ≡ Some h
    → lane_piece p part one other ≡ still part
lane_still p part one other h rests held = by p.durable
  where
    by : (durable : Bool) → moved_behind p one other (before_by p part one durable) ≡ still part
    by false = held_still p part one h rests held
    by true =
        ap (λ (o : Option (List Reply)). moved_behind p one other (runs_by p part one o)) rests
        ∙ ap (λ (o : Option Holder). moved_behind p one other (free_by p part one o)) held

pub idle_stays : (s : ScenarioData) (w : World) (l : ℕ) (choices : List Bool) → IsIdle s w l → happens s w (Turn l) choices ≡ no_event w
idle_stays s w l choices idle =
    elim idle.waits [
      | inl none ↦ ap (λ (o : Option Payment). turned_by w l choices o) none
      | inr held ↦ by_held held
    ]
  where
    by_held : IsCardInUse s w l → happens s w (Turn l) choices ≡ no_event w
    by_held held =
        ap (λ (o : Option Payment). turned_by w l choices o) held.is
        ∙ ap (λ (m : Moved). lane_moved w l held.payment.planned.card m)
        (lane_still held.payment (part_of w l held.payment.planned.card) (choice_in choices 0) (choice_in choices 1) held.holder idle.rests held.held)
        ∙ moved_still w l held.payment.planned.card

-- each of the first lanes is over
all_from : (s : ScenarioData) (w : World) (n : ℕ) → ((l : ℕ) → l < n → lane_over s w l ≡ true) → all_below s w n ≡ true
all_from s w zero each = refl
all_from s w (suc n) each = and_from (lane_over s w n) (all_below s w n) (each n (omega arith)) (all_from s w n (λ l inside. each l (omega arith)))

over_from : (s : ScenarioData) (w : World) (l : ℕ) → (lane_at w l).running ≡ None → next_of s w l ≡ None → lane_over s w l ≡ true
over_from s w l rests none = and_from (is_none (lane_at w l).running) (is_none (next_of s w l)) (ap is_none rests) (ap is_none none)

-- a card is held only by a lane that runs
pub stuck_over : (s : ScenarioData) (w : World) → IsWorldSound s w → ((l : ℕ) → l < length s.lanes → IsIdle s w l) → all_over s w ≡ true
stuck_over s w sound idle = all_from s w (length s.lanes) each
  where
    not_held : (l : ℕ) → IsCardInUse s w l → ⊥
    not_held l waits =
        let by : HeldBy s w waits.payment.planned.card waits.holder = sound.held waits.payment.planned.card waits.holder waits.held in
        let inside : waits.holder.lane < length s.lanes = (payment_facts s waits.holder.lane _ by.payment by.is).inside in
        let none : None ≡ Some by.replies = sym (idle waits.holder.lane inside).rests ∙ by.runs in cc

    each : (l : ℕ) → l < length s.lanes → lane_over s w l ≡ true
    each l inside =
        let one : IsIdle s w l = idle l inside in
        elim one.waits [
          | inl none ↦ over_from s w l one.rests none
          | inr held ↦ absurd (not_held l held)
        ]

pub stays_over : (s : ScenarioData) (v w : World) → LanesLike w v → all_over s v ≡ true → all_over s w ≡ true
stays_over s v w like over_before = all_like s w v like ∙ over_before

pub calm_over : (s : ScenarioData) (place : RunPlace) (n : ℕ) (choices : List Bool) (lines : List Line) (w : World)
    → Reached s place n choices lines w → IsCalm place → all_over s w ≡ true
calm_over s _ _ _ _ _ start calm = absurd calm
calm_over s _ _ _ _ _ (scheduled before at step) calm = absurd calm
calm_over s _ _ _ _ _ (rounds before) calm = absurd calm
calm_over s _ _ _ _ _ (round before inside on step) calm = absurd calm
calm_over s _ _ _ _ _ (again before) calm = absurd calm
calm_over s _ _ _ _ _ (settlement before is) calm = is
calm_over s _ _ _ _ _ (settling {k} {c = c} {w = v} {w' = v'} before at step) calm =
    stays_over s v v' (subst (λ (x : World). LanesLike x v) (sym step.leads) (settle_like s v c (slice_get (settlements s v) k))) (calm_over s _ _ _ _ v before tt)
calm_over s _ _ _ _ w (audit before past) calm = calm_over s _ _ _ _ w before tt
calm_over s _ _ _ _ _ (auditing {k} {c = c} {w = v} {w' = v'} before at step) calm =
    stays_over s v v' (subst (λ (x : World). LanesLike x v) (sym step.leads) (audit_like v c (slice_get (checks s) k))) (calm_over s _ _ _ _ v before tt)
calm_over s _ _ _ _ w (finished before past) calm = calm_over s _ _ _ _ w before tt

-- a lane that has a purchase left isn't over, and so not all are
pub below_over : (s : ScenarioData) (w : World) (n l : ℕ) → l < n → all_below s w n ≡ true → lane_over s w l ≡ true
below_over s w zero l inside over = absurd (omega arith)
below_over s w (suc n) l inside over = by_and (λ before others. below_over s w n l before others) (lane_over s w n) (all_below s w n) refl refl over
  where
    by_place : (l < n → all_below s w n ≡ true → lane_over s w l ≡ true) → lane_over s w n ≡ true → all_below s w n ≡ true → (l < n) ⊎ (l ≡ n)
        → lane_over s w l ≡ true
    by_place earlier this others (inl before) = earlier before others
    by_place earlier this others (inr same) = ap (λ k. lane_over s w k) same ∙ this

    place : (l < n) ⊎ (l ≡ n)
    place = elim (cases_eq l n) [ inl same ↦ inr same | inr other ↦ inl (omega arith) ]

    by_and : (l < n → all_below s w n ≡ true → lane_over s w l ≡ true) → (a b : Bool) → lane_over s w n ≡ a → all_below s w n ≡ b → (a && b) ≡ true → lane_over s w l ≡ true
    by_and earlier true true this others both = by_place earlier this others place
    by_and earlier true false this others both = cc
    by_and earlier false b this others both = cc

pub over_next : (s : ScenarioData) (w : World) (l : ℕ) → lane_over s w l ≡ true → next_of s w l ≡ None
over_next s w l over = by (is_none (lane_at w l).running) (next_of s w l) refl over
  where
    by : (a : Bool) (o : Option Payment) → next_of s w l ≡ o → (a && is_none o) ≡ true → next_of s w l ≡ None
    by true None is both = is
    by true (Some p) is both = cc
    by false o is both = cc

pub not_over : (s : ScenarioData) (w : World) (l : ℕ) (p : Payment) → next_of s w l ≡ Some p → all_over s w ≡ true → ⊥
not_over s w l p is over =
    let none : None ≡ Some p = sym (over_next s w l (below_over s w (length s.lanes) l (payment_facts s l _ p is).inside over)) ∙ is in cc
