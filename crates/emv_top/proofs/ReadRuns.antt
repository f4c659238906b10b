-- The reading of a card as a run of a scenario.
use Rattle.std.proofs.Common.{◌≡◌, ◌≢◌, ◌⊎◌, ℕ, zero, suc, ◌<◌, ◌≤◌, Bool, List, [], ◌∷◌, ◌++◌, length, replicate, slice_get, Option, Some, None, refl, ap, ◌∙◌, subst, inl, inr, arith}
use Rattle.std.specs.Prelude.{option_and_then, option_map}
use Rattle.std.specs.List.{All}
use Rattle.emv_top.specs.Input.{first_purchases}
use Rattle.report_text.specs.declared.line.Line.{Line}
use Rattle.scenario_plan.specs.Cards.{CardData}
use Rattle.scenario_plan.specs.Plan.{ScenarioData, IsScenario}
use Rattle.scenario_lanes.specs.Plan.{LaneData, HasCards}
use Rattle.scenario_lanes.specs.declared.plan.Planned.{Planned}
use Rattle.txn_replay.specs.Laws.{RunsAreFair, IsFair}
use Rattle.txn_replay.specs.Payment.{Payment, payment_with, payment_of, payment_on, payment_in, next_of}
use Rattle.txn_replay.specs.Reading.{ReadReached, start, turned}
use Rattle.txn_replay.specs.Run.{Reached, Scheduled}
use Rattle.txn_replay.specs.Run as run
use Rattle.txn_replay.specs.Sound.{IsWorldSound, IsIdle, IsCardInUse, HeldBy}
use Rattle.txn_replay.specs.Steps.{Step}
use Rattle.txn_replay.specs.World.{Holder, Past, World, LaneRow, new_lane, lane_at, card_at}
use Rattle.txn_replay.specs.declared.event.Event.TheVariants.{Turn}
use Rattle.txn_replay.proofs.RunLaws.LanesApart.{lanes_apart}
use Rattle.txn_replay.proofs.Lists.{get_or-map_const, some_at}

-- the scenario with turns of its first lane alone
abbrev pub with_turns : ℕ → ScenarioData → ScenarioData
with_turns n s = record s { schedule = replicate n 0 }

turn_at : (n k : ℕ) → k < n → slice_get {X = ℕ} (replicate n 0) k ≡ Some 0
turn_at zero k within = absurd (omega arith)
turn_at (suc n) zero within = refl
turn_at (suc n) (suc k) within = turn_at n k (omega arith)

same_step : (n : ℕ) (s : ScenarioData) (w after : World) (c : List Bool) (lines : List Line) → Step s w (Turn 0) c lines after → Step (with_turns n s) w (Turn 0) c lines after
unfolding payment_in
same_step n s w after c lines step = record { taken = step.taken; made = step.made; leads = step.leads }

-- a reading's turns are the first turns of a run
pub as_run : (most : ℕ) (s : ScenarioData) (n : ℕ) (cs : List Bool) (ls : List Line) (w : World) → ReadReached s n cs ls w → n ≤ most
    → (lines : List Line) × Reached (with_turns most s) (Scheduled n) n cs lines w
as_run most s _ _ _ _ start within = ([], run.start)
as_run most s _ _ _ _ (turned {n} {cs} {c} {ls} {new} {w} {w' = after} before unread step) within =
    let earlier : (lines : List Line) × Reached (with_turns most s) (Scheduled n) n cs lines w = as_run most s n cs ls w before (omega arith) in
    (earlier.0 ++ new, run.scheduled earlier.1 (turn_at most n (omega arith)) (same_step most s w after c new step))

pub read_fair : RunsAreFair → (s : ScenarioData) (n : ℕ) (cs : List Bool) (ls : List Line) (w : World) → ReadReached s n cs ls w → IsFair s w
read_fair law s n cs ls w reached =
    let whole : (lines : List Line) × Reached (with_turns n s) (Scheduled n) n cs lines w = as_run n s n cs ls w reached (omega arith) in
    let fair : IsFair (with_turns n s) w = law (with_turns n s) (Scheduled n) n cs whole.0 w whole.1 in
    record {
      one_use = fair.one_use;
      prefix = fair.prefix;
      booked_once = record { once = fair.booked_once.once; presented = fair.booked_once.presented };
    }

-- the other lanes never begin
abbrev pub OthersRest : World → Type 0
OthersRest w = (l : ℕ) → l ≢ 0 → lane_at w l ≡ new_lane

pub others_rest : (s : ScenarioData) (n : ℕ) (cs : List Bool) (ls : List Line) (w : World) → ReadReached s n cs ls w → OthersRest w
others_rest s _ _ _ _ start l other = get_or-map_const s.lanes l new_lane
others_rest s _ _ _ _ (turned {n} {cs} {c} {ls} {new} {w} {w' = after} before unread step) l other =
    ap (λ (v : World). lane_at v l) step.leads ∙ (lanes_apart s w 0 c).lanes l other ∙ others_rest s n cs ls w before l other

-- the first lane's first purchase is one of the scenario's
pub some_payment : (s : ScenarioData) → IsScenario s → 1 ≤ length (first_purchases s.lanes) → (p : Payment) × (payment_in s 0 0 ≡ Some p)
unfolding payment_in
some_payment s is some = by_lanes s.lanes refl some
  where
    by_card : (lane : LaneData) (planned : Planned) → planned.card < length s.cards → (p : Payment) × (payment_of s 0 lane planned ≡ Some p)
    by_card lane planned within =
        let card : (x : CardData) × (slice_get s.cards planned.card ≡ Some x) = some_at s.cards planned.card within in
        (payment_with s 0 lane planned card.0, ap (λ (o : Option CardData). option_map (payment_with s 0 lane planned) o) card.1)

    by_purchases : (lane : LaneData) (purchases : List Planned) → lane.purchases ≡ purchases → HasCards (length s.cards) lane → 1 ≤ length purchases
        → (p : Payment) × (payment_on s 0 0 lane ≡ Some p)
    by_purchases lane [] same known some = absurd (omega arith)
    by_purchases lane (planned ∷ others) same known some =
        let within : planned.card < length s.cards =
        (subst (λ (ps : List Planned). All (λ (x : Planned). x.card < length s.cards) ps) same known) 0 planned (omega arith) in
        let found : (p : Payment) × (payment_of s 0 lane planned ≡ Some p) = by_card lane planned within in
        (found.0, ap (λ (ps : List Planned). option_and_then (payment_of s 0 lane) (slice_get ps 0)) same ∙ found.1)

    by_lanes : (lanes : List LaneData) → s.lanes ≡ lanes → 1 ≤ length (first_purchases lanes)
        → (p : Payment) × (option_and_then (payment_on s 0 0) (slice_get s.lanes 0) ≡ Some p)
    by_lanes [] same some = absurd (omega arith)
    by_lanes (lane ∷ lanes) same some =
        let known : HasCards (length s.cards) lane =
        (subst (λ (ls : List LaneData). All (HasCards (length s.cards)) ls) same is.known_cards) 0 lane (omega arith) in
        let found : (p : Payment) × (payment_on s 0 0 lane ≡ Some p) = by_purchases lane lane.purchases refl known some in
        (found.0, ap (λ (ls : List LaneData). option_and_then (payment_on s 0 0) (slice_get ls 0)) same ∙ found.1)

-- a reading that isn't over goes on
module _ (s : ScenarioData) (w : World) (sound : IsWorldSound s w) (rests : OthersRest w) where
  no_holder : (i : ℕ) (h : Holder) → (lane_at w 0).running ≡ None → (card_at w i).holder ≡ Some h → ⊥
  no_holder i h idle held = by_lane h.lane refl
    where
      by : HeldBy s w i h
      by = sound.held i h held

      by_lane : (l : ℕ) → h.lane ≡ l → ⊥
      by_lane zero same =
          let runs : (lane_at w 0).running ≡ Some by.replies = subst (λ (l : ℕ). (lane_at w l).running ≡ Some by.replies) same by.runs in cc
      by_lane (suc l) same =
          let runs : (lane_at w (suc l)).running ≡ Some by.replies = subst (λ (l : ℕ). (lane_at w l).running ≡ Some by.replies) same by.runs in
          let new : (lane_at w (suc l)).running ≡ None = ap (λ (row : LaneRow). row.running) (rests (suc l) (omega arith)) in
          cc

  pub goes_on : IsScenario s → 1 ≤ length (first_purchases s.lanes) → (lane_at w 0).ended ≡ [] → IsIdle s w 0 → ⊥
  goes_on is some ended idle = by_wait idle.waits
    where
      next : (p : Payment) × (next_of s w 0 ≡ Some p)
      next =
          let first : (p : Payment) × (payment_in s 0 0 ≡ Some p) = some_payment s is some in
          (first.0, ap (λ (pasts : List Past). payment_in s 0 (length pasts)) ended ∙ first.1)

      by_wait : (next_of s w 0 ≡ None) ⊎ IsCardInUse s w 0 → ⊥
      by_wait (inl none) = (let some : next_of s w 0 ≡ Some next.0 = next.1 in cc)
      by_wait (inr held) = no_holder held.payment.planned.card held.holder idle.rests held.held
