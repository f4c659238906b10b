-- What the events keep of a card holds of each card of each world that a run comes to.
-- Whoever proves a law of cards gives it change by change, and has it of all runs here.
use Rattle.std.proofs.Common.{◌≡◌, ℕ, ◌+◌, Bool, List, slice_get, Option, Some, None, refl, sym, ap, ◌∙◌, subst, inr, arith}
use Rattle.std.proofs.lemmas.Option.{same_Some}
use Rattle.card_app.specs.Answering.{card_answer}
use Rattle.card_files.specs.Views.{ImageData}
use Rattle.card_app.specs.Pages.{found_of}
use Rattle.report_text.specs.declared.line.Line.{Line}
use Rattle.scenario_plan.specs.Cards.{CardData}
use Rattle.scenario_plan.specs.Plan.{ScenarioData}
use Rattle.txn_replay.specs.Changes.{powered, exchanged}
use Rattle.txn_replay.specs.Payment.{Payment, next_of}
use Rattle.txn_replay.specs.Run.{RunPlace, Reached, start, scheduled, rounds, round, again, settlement, settling, audit, auditing, finished}
use Rattle.txn_replay.specs.Sound.{IsWorldSound}
use Rattle.txn_replay.specs.Steps.{Settlement, Opens, Sends, Check, PowersUp, Asks, settlements, checks, part_of, turned_by, settles, audits, with_card, choice_in, happens, Step}
use Rattle.txn_replay.specs.Storing.{lane_piece}
use Rattle.txn_replay.specs.World.{CardRow, World, new_card, first_world, card_at}
use Rattle.txn_replay.specs.declared.event.Event.{Event}
use Rattle.txn_replay.specs.declared.event.Event.TheVariants.{Turn, Settle, Audit}
use Rattle.txn_replay.proofs.AuditLaws.AuditSteps.{IsChecked, check_facts}
use Rattle.txn_replay.proofs.CardLaws.CardKept.{Closed, lane_keeps}
use Rattle.txn_replay.proofs.Lists.{at_set, get_or-map_const}
use Rattle.txn_replay.proofs.ExchangeLaws.LaneMoves.{this_one}
use Rattle.txn_replay.proofs.ExchangeLaws.PurchaseFacts.{payment_facts}
use Rattle.txn_replay.proofs.RunLaws.SoundWorlds.{turn_sound, has_card, settled_sound, card_sound, first_sound}

-- what the first world has and each event keeps, each world has that a run comes to
module _ (s : ScenarioData) (Q : World → Type 0) (first : Q (first_world s))
    (keeps : (w : World) (e : Event) (choices : List Bool) → Q w → Q (happens s w e choices).world) where
  step_keeps : (w : World) (e : Event) (choices : List Bool) (lines : List Line) (after : World) → Step s w e choices lines after → Q w → Q after
  step_keeps w e choices lines after step has = subst Q (sym step.leads) (keeps w e choices has)

  pub reached_keeps : (place : RunPlace) (n : ℕ) (choices : List Bool) (lines : List Line) (w : World) → Reached s place n choices lines w → Q w
  reached_keeps _ _ _ _ _ start = first
  reached_keeps _ _ _ _ _ (scheduled {c = c} {new = new} {w = v} {w' = v'} before at step) = step_keeps v _ c new v' step (reached_keeps _ _ _ _ v before)
  reached_keeps _ _ _ _ w (rounds before) = reached_keeps _ _ _ _ w before
  reached_keeps _ _ _ _ _ (round {c = c} {new = new} {w = v} {w' = v'} before inside on step) = step_keeps v _ c new v' step (reached_keeps _ _ _ _ v before)
  reached_keeps _ _ _ _ w (again before) = reached_keeps _ _ _ _ w before
  reached_keeps _ _ _ _ w (settlement before over) = reached_keeps _ _ _ _ w before
  reached_keeps _ _ _ _ _ (settling {c = c} {new = new} {w = v} {w' = v'} before at step) = step_keeps v _ c new v' step (reached_keeps _ _ _ _ v before)
  reached_keeps _ _ _ _ w (audit before past) = reached_keeps _ _ _ _ w before
  reached_keeps _ _ _ _ _ (auditing {c = c} {new = new} {w = v} {w' = v'} before at step) = step_keeps v _ c new v' step (reached_keeps _ _ _ _ v before)
  reached_keeps _ _ _ _ w (finished before past) = reached_keeps _ _ _ _ w before

-- the world is sound, and each of its cards has this of its image
pub record AllHold (P : ImageData → CardRow → Type 0) (s : ScenarioData) (w : World) : Type 0 where
  pub sound : IsWorldSound s w
  pub cards : (i : ℕ) (card : CardData) → slice_get s.cards i ≡ Some card → P card.image (card_at w i)

module _ (P : ImageData → CardRow → Type 0) (closed : Closed P) (s : ScenarioData) where
  -- what holds of the image of this number
  abbrev At : ℕ → CardRow → Type 0
  At i row = (card : CardData) → slice_get s.cards i ≡ Some card → P card.image row

  turn_cards : (w : World) (l : ℕ) (choices : List Bool) → AllHold P s w → (o : Option Payment) → next_of s w l ≡ o
      → (i : ℕ) → At i (card_at (turned_by w l choices o).world i)
  turn_cards w l choices hold None is i = hold.cards i
  turn_cards w l choices hold (Some p) is i =
      at_set At w.cards p.planned.card (lane_piece p (part_of w l p.planned.card) (choice_in choices 0) (choice_in choices 1)).part.card new_card here
      hold.cards i
    where
      there : slice_get s.cards p.planned.card ≡ Some p.card
      there = (payment_facts s l _ p is).card

      kept : P p.card.image (lane_piece p (part_of w l p.planned.card) (choice_in choices 0) (choice_in choices 1)).part.card
      kept =
          lane_keeps P closed p (part_of w l p.planned.card) (choice_in choices 0) (choice_in choices 1) (this_one p (part_of w l p.planned.card))
          (has_card s w l p hold.sound is) (hold.cards p.planned.card p.card there)

      here : At p.planned.card (lane_piece p (part_of w l p.planned.card) (choice_in choices 0) (choice_in choices 1)).part.card
      here card is_there =
          subst (λ (x : CardData). P x.image (lane_piece p (part_of w l p.planned.card) (choice_in choices 0) (choice_in choices 1)).part.card)
          (same_Some p.card card (sym there ∙ is_there)) kept

  settle_holds : (w : World) (choices : List Bool) (o : Option Settlement) → AllHold P s w → AllHold P s (settles s w choices o).world
  settle_holds w choices None hold = hold
  settle_holds w choices (Some (Opens l)) hold = record { sound = settled_sound s w choices (Some (Opens l)) hold.sound; cards = hold.cards }
  settle_holds w choices (Some (Sends l message drops)) hold =
      record { sound = settled_sound s w choices (Some (Sends l message drops)) hold.sound; cards = hold.cards }

  -- an audited card
  audited : (w : World) (i : ℕ) (card : CardData) (row : CardRow) → AllHold P s w → slice_get s.cards i ≡ Some card
      → row.holder ≡ (card_at w i).holder → P card.image row → AllHold P s (with_card w i row)
  audited w i card row hold there same holds = record {
    sound = card_sound s w i row same hold.sound;
    cards = at_set At w.cards i row new_card
        (λ other is_there. subst (λ (x : CardData). P x.image row) (same_Some card other (sym there ∙ is_there)) holds) hold.cards;
  }

  audit_holds : (w : World) (choices : List Bool) (o : Option Check) → ((check : Check) → o ≡ Some check → IsChecked s.cards 0 check) → AllHold P s w
      → AllHold P s (audits w choices o).world
  audit_holds w choices None checked hold = hold
  audit_holds w choices (Some (PowersUp i card)) checked hold =
      let one : IsChecked s.cards 0 (PowersUp i card) = checked (PowersUp i card) refl in
      let place : i ≡ one.place = (let e : i ≡ 0 + one.place = one.of_it.0 in omega arith) in
      let there : slice_get s.cards i ≡ Some card = ap (λ n. slice_get s.cards n) place ∙ one.there ∙ ap (λ (x : CardData). Some x) (sym one.of_it.1) in
      audited w i card (powered (card_at w i) (found_of (card_at w i).kept (card_at w i).pending (choice_in choices 0)) (card_at w i).holder) hold there refl
      (closed.powers card.image (card_at w i) (choice_in choices 0) (card_at w i).holder (hold.cards i card there))
  audit_holds w choices (Some (Asks i card command)) checked hold =
      let one : IsChecked s.cards 0 (Asks i card command) = checked (Asks i card command) refl in
      let place : i ≡ one.place = (let e : i ≡ 0 + one.place = one.of_it.0 in omega arith) in
      let there : slice_get s.cards i ≡ Some card = ap (λ n. slice_get s.cards n) place ∙ one.there ∙ ap (λ (x : CardData). Some x) (sym one.of_it.1) in
      audited w i card
      (exchanged card.image (card_at w i) command (card_answer card.image (card_at w i).kept (card_at w i).session command)) hold there refl
      (closed.answers card.image (card_at w i) command (inr (one.of_it.2 card.image (card_at w i).kept (card_at w i).session))
      (hold.cards i card there))

  event_holds : (w : World) (e : Event) (choices : List Bool) → AllHold P s w → AllHold P s (happens s w e choices).world
  event_holds w (Turn l) choices hold =
      record { sound = turn_sound s w l choices hold.sound; cards = turn_cards w l choices hold (next_of s w l) refl }
  event_holds w (Settle k) choices hold = settle_holds w choices (slice_get (settlements s w) k) hold
  event_holds w (Audit k) choices hold = audit_holds w choices (slice_get (checks s) k) (check_facts s k) hold

  first_holds : AllHold P s (first_world s)
  first_holds = record {
    sound = first_sound s;
    cards = λ i card there. subst (λ (row : CardRow). P card.image row) (sym (get_or-map_const s.cards i new_card)) (closed.first card.image);
  }

  pub reached_holds : (place : RunPlace) (n : ℕ) (choices : List Bool) (lines : List Line) (w : World) → Reached s place n choices lines w → AllHold P s w
  reached_holds = reached_keeps s (AllHold P s) first_holds event_holds

-- each event leads from a sound world to a sound one
pub event_sound : (s : ScenarioData) (w : World) (e : Event) (choices : List Bool) → IsWorldSound s w → IsWorldSound s (happens s w e choices).world
event_sound s w (Turn l) choices sound = turn_sound s w l choices sound
event_sound s w (Settle k) choices sound = settled_sound s w choices (slice_get (settlements s w) k) sound
event_sound s w (Audit k) choices sound = by (slice_get (checks s) k)
  where
    by : (o : Option Check) → IsWorldSound s (audits w choices o).world
    by None = sound
    by (Some (PowersUp i card)) =
        card_sound s w i (powered (card_at w i) (found_of (card_at w i).kept (card_at w i).pending (choice_in choices 0)) (card_at w i).holder) refl sound
    by (Some (Asks i card command)) =
        card_sound s w i (exchanged card.image (card_at w i) command (card_answer card.image (card_at w i).kept (card_at w i).session command)) refl sound
