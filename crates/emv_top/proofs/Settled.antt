-- Behind the audit no card has an open decision, and one of canned answers never has.
use Rattle.std.proofs.Common.{◌≡◌, ◌⊎◌, ℕ, zero, suc, ◌+◌, ◌<◌, Bool, List, [], ◌∷◌, ◌++◌, length, get_or, set, slice_get, Option, Some, None, refl, sym, ap, ◌∙◌, subst, inl, inr, arith}
use Rattle.std.specs.Prelude.{⊤}
use Rattle.std.proofs.lemmas.Option.{same_Some}
use Rattle.card_app.specs.Answering.{card_answer}
use Rattle.card_app.specs.Pages.{found_of}
use Rattle.emv_top.specs.Answers.{AreSettled}
use Rattle.emv_top.proofs.Uncut.{IsSettled, lane_card}
use Rattle.report_text.specs.declared.line.Line.{Line}
use Rattle.scenario_plan.specs.Cards.{CardData}
use Rattle.scenario_plan.specs.Plan.{ScenarioData}
use Rattle.txn_replay.specs.Changes.{powered, exchanged}
use Rattle.txn_replay.specs.Part.{Moved}
use Rattle.txn_replay.specs.Payment.{Payment, next_of}
use Rattle.txn_replay.specs.Run.{RunPlace, Scheduled, Round, Settling, Auditing, Finished, Reached, start, scheduled, rounds, round, again, settlement, settling, audit, auditing, finished}
use Rattle.txn_replay.specs.Steps.{Settlement, Opens, Sends, settlements, settles, Check, PowersUp, Asks, card_checks, checks_from, checks, audits, part_of, choice_in, turned_by, happens}
use Rattle.txn_replay.specs.Storing.{lane_piece}
use Rattle.txn_replay.specs.World.{CardRow, World, new_card, first_world, card_at, lane_at}
use Rattle.txn_replay.specs.declared.event.Event.{Event}
use Rattle.txn_replay.specs.declared.event.Event.TheVariants.{Turn, Settle, Audit}
use Rattle.txn_replay.proofs.AuditLaws.AuditNumbers.{power_check}
use Rattle.txn_replay.proofs.RunLaws.CardsReached.{reached_keeps}
use Rattle.txn_replay.proofs.Lists.{at_set, get_or-map_const, append_first}
use Rattle.txn_replay.proofs.ExchangeLaws.PurchaseFacts.{payment_facts}

-- an element is the new one, or there is none
set_here : {A : Type 0} (xs : List A) (i : ℕ) (a d : A) → (get_or (set xs i a) i d ≡ a) ⊎ (get_or (set xs i a) i d ≡ d)
set_here [] i a d = inr refl
set_here (x ∷ xs) zero a d = inl refl
set_here (x ∷ xs) (suc i) a d = set_here xs i a d

-- a power-up settles its card
settles_here : (w : World) (i : ℕ) (row : CardRow) → IsSettled row → IsSettled (get_or (set w.cards i row) i new_card)
settles_here w i row settled = by (set_here w.cards i row new_card)
  where
    by : (get_or (set w.cards i row) i new_card ≡ row) ⊎ (get_or (set w.cards i row) i new_card ≡ new_card) → IsSettled (get_or (set w.cards i row) i new_card)
    by (inl same) = subst IsSettled (sym same) settled
    by (inr same) = subst IsSettled (sym same) refl

-- a card that is settled stays so
stays_settled : (w : World) (i k : ℕ) (row : CardRow) → (k ≡ i → IsSettled row) → IsSettled (card_at w i) → IsSettled (get_or (set w.cards k row) i new_card)
stays_settled w i k row here settled =
    at_set (λ (j : ℕ) (r : CardRow). j ≡ i → IsSettled r) w.cards k row new_card here
    (λ j same. subst (λ (n : ℕ). IsSettled (card_at w n)) (sym same) settled) i refl

check_keeps : (w : World) (choices : List Bool) (o : Option Check) (i : ℕ) → IsSettled (card_at w i) → IsSettled (card_at (audits w choices o).world i)
check_keeps w choices None i settled = settled
check_keeps w choices (Some (PowersUp k card)) i settled =
    stays_settled w i k (powered (card_at w k) (found_of (card_at w k).kept (card_at w k).pending (choice_in choices 0)) (card_at w k).holder) (λ same. refl) settled
check_keeps w choices (Some (Asks k card command)) i settled =
    stays_settled w i k
    (exchanged card.image (card_at w k) command (card_answer card.image (card_at w k).kept (card_at w k).session command))
    (λ same. subst (λ (n : ℕ). IsSettled (card_at w n)) (sym same) settled) settled

check_settles : (w : World) (choices : List Bool) (i : ℕ) (card : CardData) (o : Option Check) → o ≡ Some (PowersUp i card) → IsSettled (card_at (audits w choices o).world i)
check_settles w choices i card o is =
    subst (λ (x : Option Check). IsSettled (card_at (audits w choices x).world i)) (sym is)
    (settles_here w i (powered (card_at w i) (found_of (card_at w i).kept (card_at w i).pending (choice_in choices 0)) (card_at w i).holder) refl)

-- the cards that were powered up so far
abbrev pub AuditedTo : ScenarioData → ℕ → World → Type 0
AuditedTo s k w = (i : ℕ) (card : CardData) (j : ℕ) → j < k → slice_get (checks s) j ≡ Some (PowersUp i card) → IsSettled (card_at w i)

abbrev pub Audited : ScenarioData → RunPlace → World → Type 0
Audited s (Scheduled k) w = ⊤
Audited s (Round l) w = ⊤
Audited s (Settling k) w = ⊤
Audited s (Auditing k) w = AuditedTo s k w
Audited s Finished w = (i : ℕ) (card : CardData) (j : ℕ) → slice_get (checks s) j ≡ Some (PowersUp i card) → IsSettled (card_at w i)

split_below : (j k : ℕ) → j < k + 1 → (j < k) ⊎ (k ≡ j)
split_below zero zero below = inr refl
split_below zero (suc k) below = inl (omega arith)
split_below (suc j) zero below = absurd (omega arith)
split_below (suc j) (suc k) below = elim (split_below j k (omega arith)) [ inl less ↦ inl (omega arith) | inr same ↦ inr (ap suc same) ]

below_end : {A : Type 0} (xs : List A) (j k : ℕ) (x : A) → slice_get xs j ≡ Some x → slice_get xs k ≡ None → j < k
below_end [] j k x here none = absurd (cc)
below_end (y ∷ ys) zero zero x here none = absurd (cc)
below_end (y ∷ ys) zero (suc k) x here none = omega arith
below_end (y ∷ ys) (suc j) zero x here none = absurd (cc)
below_end (y ∷ ys) (suc j) (suc k) x here none = (let less : j < k = below_end ys j k x here none in omega arith)

audited : (s : ScenarioData) (place : RunPlace) (n : ℕ) (cs : List Bool) (ls : List Line) (w : World) → Reached s place n cs ls w → Audited s place w
audited s _ _ _ _ _ start = tt
audited s _ _ _ _ _ (scheduled before at step) = tt
audited s _ _ _ _ _ (rounds before) = tt
audited s _ _ _ _ _ (round before inside busy step) = tt
audited s _ _ _ _ _ (again before) = tt
audited s _ _ _ _ _ (settlement before over) = tt
audited s _ _ _ _ _ (settling before at step) = tt
audited s _ _ _ _ _ (audit before past) = λ i card j below is. absurd (omega (arith, below))
audited s _ _ _ _ _ (auditing {k} {n} {cs} {c} {ls} {new} {w} {w' = after} before at step) = λ i card j below is.
    subst (λ (v : World). IsSettled (card_at v i)) (sym step.leads) (by (audited s (Auditing k) n cs ls w before) i card j (split_below j k below) is)
  where
    by : AuditedTo s k w → (i : ℕ) (card : CardData) (j : ℕ) → (j < k) ⊎ (k ≡ j) → slice_get (checks s) j ≡ Some (PowersUp i card)
        → IsSettled (card_at (audits w c (slice_get (checks s) k)).world i)
    by earlier i card j (inl less) is =
        check_keeps w c (slice_get (checks s) k) i (earlier i card j less is)
    by earlier i card j (inr same) is =
        check_settles w c i card (slice_get (checks s) k) (subst (λ (m : ℕ). slice_get (checks s) m ≡ Some (PowersUp i card)) (sym same) is)
audited s _ _ _ _ _ (finished {k} {n} {cs} {ls} {w} before past) = λ i card j is.
    audited s (Auditing k) n cs ls w before i card j (below_end (checks s) j k (PowersUp i card) is past) is

behind : {A : Type 0} (xs ys : List A) (j m : ℕ) (x : A) → m ≡ length xs + j → slice_get ys j ≡ Some x → slice_get (xs ++ ys) m ≡ Some x
behind [] ys j m x at is = (let same : j ≡ m = omega arith in subst (λ (n : ℕ). slice_get ys n ≡ Some x) same is)
behind (y ∷ xs) ys j zero x at is = absurd (omega arith)
behind (y ∷ xs) ys j (suc m) x at is = behind xs ys j m x (omega arith) is

-- each card with applications is powered up in the audit
powered_in : (from i k : ℕ) (cards : List CardData) (card : CardData) → k ≡ from + i → slice_get cards i ≡ Some card → card.canned ≡ None
    → (j : ℕ) × (slice_get (checks_from from cards) j ≡ Some (PowersUp k card))
unfolding checks_from
powered_in from i k [] card at is apps = absurd (cc)
powered_in from zero k (first ∷ cards) card at is apps =
    let same : first ≡ card = cc in
    let place : from ≡ k = omega arith in (
      0,
      append_first (card_checks from first) (checks_from (from + 1) cards) 0 (PowersUp from first) (power_check from first (ap (λ (x : CardData). x.canned) same ∙ apps))
          ∙ ap (λ (x : CardData). Some (PowersUp from x)) same
          ∙ ap (λ (n : ℕ). Some (PowersUp n card)) place,
    )
powered_in from (suc i) k (first ∷ cards) card at is apps =
    let later : (j : ℕ) × (slice_get (checks_from (from + 1) cards) j ≡ Some (PowersUp k card)) = powered_in (from + 1) i k cards card (omega arith) is apps in
    (length (card_checks from first) + later.0, behind (card_checks from first) (checks_from (from + 1) cards) later.0 _ (PowersUp k card) refl later.1)

-- a card of canned answers decides nothing
abbrev pub CannedSettled : ScenarioData → World → Type 0
CannedSettled s w =
    (i : ℕ) (card : CardData) (answers : List (List ℕ)) → slice_get s.cards i ≡ Some card → card.canned ≡ Some answers → IsSettled (card_at w i)

module _ (s : ScenarioData) where
  turn_canned : (w : World) (l : ℕ) (choices : List Bool) (o : Option Payment) → next_of s w l ≡ o → CannedSettled s w
      → CannedSettled s (turned_by w l choices o).world
  turn_canned w l choices None is before = before
  turn_canned w l choices (Some p) is before =
      at_set (λ (i : ℕ) (row : CardRow). (card : CardData) (answers : List (List ℕ)) → slice_get s.cards i ≡ Some card → card.canned ≡ Some answers → IsSettled row)
      w.cards p.planned.card m.part.card new_card here before
    where
      m : Moved
      m = lane_piece p (part_of w l p.planned.card) (choice_in choices 0) (choice_in choices 1)

      here : (card : CardData) (answers : List (List ℕ)) → slice_get s.cards p.planned.card ≡ Some card → card.canned ≡ Some answers
          → IsSettled m.part.card
      here card answers there canned =
          let same : p.card ≡ card = same_Some p.card card (sym (payment_facts s l (length (lane_at w l).ended) p is).card ∙ there) in
          let its : p.card.canned ≡ Some answers = ap (λ (x : CardData). x.canned) same ∙ canned in
          (lane_card p (part_of w l p.planned.card) (λ apps. absurd (not_both its apps)) (before p.planned.card card answers there canned)
          (choice_in choices 0) (choice_in choices 1)).0
        where
          not_both : p.card.canned ≡ Some answers → p.card.canned ≡ None → ⊥
          not_both some none = cc

  settle_canned : (w : World) (choices : List Bool) (o : Option Settlement) → CannedSettled s w → CannedSettled s (settles s w choices o).world
  settle_canned w choices None before = before
  settle_canned w choices (Some (Opens l)) before = before
  settle_canned w choices (Some (Sends l message drops)) before = before

  event_canned : (w : World) (e : Event) (choices : List Bool) → CannedSettled s w → CannedSettled s (happens s w e choices).world
  event_canned w (Turn l) choices before = turn_canned w l choices (next_of s w l) refl before
  event_canned w (Settle k) choices before = settle_canned w choices (slice_get (settlements s w) k) before
  event_canned w (Audit k) choices before =
      λ i card answers there canned. check_keeps w choices (slice_get (checks s) k) i (before i card answers there canned)

  first_canned : CannedSettled s (first_world s)
  first_canned i card answers there canned = subst IsSettled (sym (get_or-map_const s.cards i new_card)) refl

  canned_settled : (place : RunPlace) (n : ℕ) (cs : List Bool) (ls : List Line) (w : World) → Reached s place n cs ls w → CannedSettled s w
  canned_settled = reached_keeps s (CannedSettled s) first_canned event_canned

pub run_settled : (s : ScenarioData) (n : ℕ) (cs : List Bool) (ls : List Line) (w : World) → Reached s Finished n cs ls w → AreSettled s w
run_settled s n cs ls w reached i card is = by_kind card.canned refl
  where
    by_kind : (o : Option (List (List ℕ))) → card.canned ≡ o → IsSettled (card_at w i)
    by_kind None apps =
        let there : (j : ℕ) × (slice_get (checks s) j ≡ Some (PowersUp i card)) = powered_in 0 i i s.cards card (omega arith) is apps in
        audited s Finished n cs ls w reached i card there.0 there.1
    by_kind (Some answers) canned = canned_settled s Finished n cs ls w reached i card answers is canned
