-- What the events keep of a world with the lines so far holds of each world of a run with its lines.
-- Whoever proves a law of lines gives it event by event, and has it of all runs here.
use Rattle.std.proofs.Common.{◌≡◌, ◌≢◌, ℕ, ◌<◌, ◌++◌, Bool, List, [], length, Some, false, sym, subst, arith}
use Rattle.std.specs.Prelude.{◌==◌}
use Rattle.std.proofs.lemmas.Bool.{ne_eqb}
use Rattle.std.proofs.lemmas.List.{get_or-set_same}
use Rattle.std.proofs.lemmas.Option.{slice_get_within}
use Rattle.report_text.specs.declared.line.Line.{Line}
use Rattle.scenario_plan.specs.Plan.{ScenarioData}
use Rattle.txn_replay.specs.Part.{Moved}
use Rattle.txn_replay.specs.Payment.{Payment, next_of}
use Rattle.txn_replay.specs.Run.{RunPlace, Reached, start, scheduled, rounds, round, again, settlement, settling, audit, auditing, finished}
use Rattle.txn_replay.specs.Sound.{IsWorldSound}
use Rattle.txn_replay.specs.Steps.{happens, lane_moved, Step}
use Rattle.txn_replay.specs.World.{World, new_card, new_lane, first_world, card_at, lane_at}
use Rattle.txn_replay.specs.declared.event.Event.{Event}
use Rattle.txn_replay.proofs.ExchangeLaws.PurchaseFacts.{payment_facts}

-- the number of another lane
pub apart : (k l : ℕ) → k ≢ l → (l == k) ≡ false
apart k l other = ne_eqb l k (λ same. other (sym same))

module _ (s : ScenarioData) (Q : World → List Line → Type 0) (first : Q (first_world s) [])
    (keeps : (w : World) (lines : List Line) (e : Event) (choices : List Bool) → Q w lines → Q (happens s w e choices).world (lines ++ (happens s w e choices).lines)) where
  pub step_lines : (w : World) (lines : List Line) (e : Event) (choices : List Bool) (new : List Line) (after : World) → Step s w e choices new after → Q w lines → Q after (lines ++ new)
  step_lines w lines e choices new after step has =
      subst (λ (x : World). Q x (lines ++ new)) (sym step.leads)
      (subst (λ (xs : List Line). Q (happens s w e choices).world (lines ++ xs)) (sym step.made) (keeps w lines e choices has))

  pub reached_lines : (place : RunPlace) (n : ℕ) (choices : List Bool) (lines : List Line) (w : World) → Reached s place n choices lines w → Q w lines
  reached_lines _ _ _ _ _ start = first
  reached_lines _ _ _ _ _ (scheduled {c = c} {ls = ls} {new = new} {w = v} {w' = v'} before at step) = step_lines v ls _ c new v' step (reached_lines _ _ _ ls v before)
  reached_lines _ _ _ ls w (rounds before) = reached_lines _ _ _ ls w before
  reached_lines _ _ _ _ _ (round {c = c} {ls = ls} {new = new} {w = v} {w' = v'} before inside on step) = step_lines v ls _ c new v' step (reached_lines _ _ _ ls v before)
  reached_lines _ _ _ ls w (again before) = reached_lines _ _ _ ls w before
  reached_lines _ _ _ ls w (settlement before over) = reached_lines _ _ _ ls w before
  reached_lines _ _ _ _ _ (settling {c = c} {ls = ls} {new = new} {w = v} {w' = v'} before at step) = step_lines v ls _ c new v' step (reached_lines _ _ _ ls v before)
  reached_lines _ _ _ ls w (audit before past) = reached_lines _ _ _ ls w before
  reached_lines _ _ _ _ _ (auditing {c = c} {ls = ls} {new = new} {w = v} {w' = v'} before at step) = step_lines v ls _ c new v' step (reached_lines _ _ _ ls v before)
  reached_lines _ _ _ ls w (finished before past) = reached_lines _ _ _ ls w before

-- the lane and the card of an exchange, behind it
module _ (s : ScenarioData) (w : World) (l : ℕ) (p : Payment) (sound : IsWorldSound s w) (is : next_of s w l ≡ Some p) (m : Moved) where
  pub lane_behind : lane_at (lane_moved w l p.planned.card m).world l ≡ m.part.lane
  lane_behind =
      let inside : l < length w.lanes =
      (let a : l < length s.lanes = (payment_facts s l _ p is).inside in let b : length w.lanes ≡ length s.lanes = sound.lane_count in omega arith) in
      get_or-set_same w.lanes l m.part.lane new_lane inside

  pub card_behind : card_at (lane_moved w l p.planned.card m).world p.planned.card ≡ m.part.card
  card_behind =
      let inside : p.planned.card < length w.cards =
      (let a : p.planned.card < length s.cards = slice_get_within s.cards p.planned.card p.card (payment_facts s l _ p is).card in
      let b : length w.cards ≡ length s.cards = sound.card_count in omega arith) in
      get_or-set_same w.cards p.planned.card m.part.card new_card inside
