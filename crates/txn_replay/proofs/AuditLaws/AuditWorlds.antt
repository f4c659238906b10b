-- A value and its world behind a step of the audit.
-- A card that no purchase has is turned on or asked, and all else stays.
use Rattle.std.proofs.Common.{◌≡◌, ℕ, ◌+◌, ◌≤◌, ◌<◌, Bool, true, List, [], ◌∷◌, length, get_or, set, slice_get, Option, Some, None, refl, sym, ap, ◌∙◌, subst, inl, inr, arith}
use Rattle.std.specs.Prelude.{IfSome}
use Rattle.std.proofs.lemmas.Option.{same_Some, slice_get_within, get_or_from_slice_get}
use Rattle.report_text.specs.declared.line.Line.{Line}
use Rattle.scenario_plan.specs.Cards.{IsCard, CardData}
use Rattle.scenario_plan.specs.Plan.{ScenarioData, IsScenario}
use Rattle.txn_replay.specs.Audited.{question_command, check_by, checked_row, IsChecked, RowRests}
use Rattle.txn_replay.specs.Run.{lane_over, all_over}
use Rattle.txn_replay.specs.Seen.{WorldSeen, RunCardStands, WorldStands, EventHasLed, IsNext, plan_for}
use Rattle.txn_replay.specs.RunCard.{RunCardSeen, RunCardOn, IsRunCardOf, HasLost, run_card_is_powered}
use Rattle.txn_replay.specs.Sound.{HeldBy}
use Rattle.txn_replay.specs.Standing.{PlaceStands}
use Rattle.txn_replay.specs.Steps.{Check, PowersUp, checks, with_card, no_event, audits}
use Rattle.txn_replay.specs.World.{Holder, CardRow, World, new_card, card_at}
use Rattle.txn_replay.specs.declared.audit.Question.{Question}
use Rattle.txn_replay.specs.declared.event.Event.TheVariants.{Audit}
use Rattle.txn_replay.proofs.RunLaws.FewEvents.{checks_few}
use Rattle.txn_replay.proofs.AuditLaws.AuditOrder.{index_of, first_powers, asks_follow}
use Rattle.txn_replay.proofs.RunLaws.EventsLead.{leads_on, run_card_stays}
use Rattle.txn_replay.proofs.Lists.{set_here, set_both}
use Rattle.txn_replay.proofs.ExchangeLaws.PurchaseFacts.{payment_facts}
use Rattle.txn_replay.proofs.RunLaws.SoundWorlds.{card_sound}
use Rattle.txn_replay.proofs.RunLaws.TurnsEnd.{below_over, over_next}
use Rattle.txn_replay.proofs.ExchangeLaws.LaneMessages.{LanesLike}
use Rattle.txn_replay.proofs.RunLaws.TurnsEnd.{stays_over}

index_is : (i : ℕ) (card : CardData) (question : Option Question) → index_of (check_by i card question) ≡ i
index_is i card None = refl
index_is i card (Some question) = refl

-- no purchase has a card once all are over
none_held : (s : ScenarioData) (w : World) (i : ℕ) (h : Holder) → HeldBy s w i h → all_over s w ≡ true → ⊥
none_held s w i h by over =
    let lane : lane_over s w h.lane ≡ true = below_over s w (length s.lanes) h.lane (payment_facts s h.lane _ by.payment by.is).inside over in
    let none : None ≡ Some by.payment = sym (over_next s w h.lane lane) ∙ by.is in cc

module _ (v : WorldSeen) (w : World) (stands : WorldStands v w) (over : all_over v.scenario w ≡ true) where
  -- each card rests
  pub record Rests (i : ℕ) (run_card : RunCardSeen) (card : CardData) : Type 0 where
    pub rests : RowRests run_card (card_at w i)
    pub free : (card_at w i).holder ≡ None
    pub is : IsRunCardOf run_card card
    pub losses : HasLost run_card (card_at w i).losses

  pub card_rests : (i : ℕ) (run_card : RunCardSeen) (card : CardData) → slice_get v.run_cards i ≡ Some run_card → slice_get v.scenario.cards i ≡ Some card → Rests i run_card card
  card_rests i run_card card there is =
      elim (stands.run_cards i run_card card there is) [
        | inl here ↦ placed (card_at w i).holder refl here.is here.losses here.stands
        | inr audited ↦ record {
          rests = inr audited.on;
          free = audited.free;
          is = audited.is;
          losses = audited.losses;
        }
      ]
    where
      placed : (holder : Option Holder) → (card_at w i).holder ≡ holder → IsRunCardOf run_card card → HasLost run_card (card_at w i).losses
          → PlaceStands run_card (plan_for v.scenario holder) (card_at w i) holder → Rests i run_card card
      placed None held is_of losses off = record { rests = inl off; free = held; is = is_of; losses = losses }
      placed (Some h) held is_of losses on = absurd (none_held v.scenario w i h (stands.sound.held i h held) over)

  -- no event where none is left
  pub none_checks : (k : ℕ) → slice_get (checks v.scenario) k ≡ None → EventHasLed v w (Audit k) []
  none_checks k none = leads_on v w (Audit k) [] [] (no_event w) (ap (λ (o : Option Check). audits w [] o) none) refl refl stands

  module _ (i : ℕ) (run_card next : RunCardSeen) (card : CardData) (there : slice_get v.run_cards i ≡ Some run_card) (is : slice_get v.scenario.cards i ≡ Some card)
      (is_of : IsRunCardOf next card) (losses : HasLost next (card_at w i).losses) where
    abbrev value : WorldSeen
    value = record v { run_cards = set v.run_cards i next }

    module _ (row : CardRow) (holder : row.holder ≡ (card_at w i).holder) (count : row.losses ≡ (card_at w i).losses)
        (on : RunCardOn next row None) where
      abbrev after : World
      after = with_card w i row

      same_lanes : LanesLike after w
      same_lanes = record { count = refl; each = λ l. refl }

      inside : i < length w.cards
      inside =
          let a : i < length v.scenario.cards = slice_get_within v.scenario.cards i card is in
          let b : length w.cards ≡ length v.scenario.cards = stands.sound.card_count in
          omega arith

      audited : RunCardStands v.scenario after next card row
      audited =
          let rests : Rests i run_card card = card_rests i run_card card there is in
          inr (record {
            over = stays_over v.scenario w after same_lanes over;
            is = is_of;
            losses = subst (λ n. HasLost next n) (sym count) losses;
            free = holder ∙ rests.free;
            on = on;
          })

      run_cards_after : (j : ℕ) (other : RunCardSeen) → slice_get value.run_cards j ≡ Some other → (its : CardData) → slice_get v.scenario.cards j ≡ Some its
          → RunCardStands v.scenario after other its (card_at after j)
      run_cards_after =
          set_both (λ (j : ℕ) (x : RunCardSeen) (r : CardRow). (its : CardData) → slice_get v.scenario.cards j ≡ Some its → RunCardStands v.scenario after x its r)
          v.run_cards w.cards i next row new_card inside
          (λ its its_is. subst (λ (c : CardData). RunCardStands v.scenario after next c row) (same_Some card its (sym is ∙ its_is)) audited)
          (λ j x at. λ its its_is. run_card_stays v.scenario w after same_lanes x its (card_at w j) (stands.run_cards j x its at its_is))

      checked_stands : WorldStands value after
      checked_stands = record {
        sound = card_sound v.scenario w i row holder stands.sound;
        few = stands.few;
        run_cards = λ j other its at its_is. run_cards_after j other at its its_is;
        lanes = stands.lanes;
        lane_stores = stands.lane_stores;
        stored = record { lanes = stands.stored.lanes; before = λ l. inr (stays_over v.scenario w after same_lanes over) };
        messages = record { books = stands.messages.books };
        tally = stands.tally;
      }

    module _ (k : ℕ) (lines : List Line) where
      pub one_checks : (question : Option Question) (choice : Bool) → slice_get (checks v.scenario) k ≡ Some (check_by i card question)
          → IsChecked next card (card_at w i) question choice lines → EventHasLed value w (Audit k) lines
      one_checks None choice at checked =
          leads_on value w (Audit k) (choice ∷ []) lines (audits w (choice ∷ []) (Some (PowersUp i card)))
          (ap (λ (o : Option Check). audits w (choice ∷ []) o) at) refl checked.lines_are
          (checked_stands (checked_row card (card_at w i) None choice) refl refl checked.on)
      one_checks (Some question) choice at checked =
          leads_on value w (Audit k) [] lines (audits w [] (Some (check_by i card (Some question))))
          (ap (λ (o : Option Check). audits w [] o) at) refl checked.lines_are
          (checked_stands (checked_row card (card_at w i) (Some question) choice) refl refl checked.on)

      pub next_checks : (question : Option Question) → slice_get (checks v.scenario) k ≡ Some (check_by i card question) → run_card_is_powered next ≡ true → IsNext value (k + 1)
      next_checks question at on = λ j other command found follows found_at.
          let same : i ≡ j = sym (index_is i card question) ∙ asks_follow 0 v.scenario.cards k (check_by i card question) j other command at follows in
          let run_card_is : next ≡ found = set_here v.run_cards i next found (ap (λ n. slice_get (set v.run_cards i next) n) same ∙ found_at) in
          ap run_card_is_powered (sym run_card_is) ∙ on

pub checked_few : (s : ScenarioData) → IsScenario s → (k : ℕ) (check : Check) → slice_get (checks s) k ≡ Some check → k < 832
checked_few s fits k check at =
    let within : k < length (checks s) = slice_get_within (checks s) k check at in
    let few : length (checks s) ≤ 832 = checks_few s fits in
    omega arith

-- nothing was asked before the first step
pub first_next : (v : WorldSeen) → IsNext v 0
first_next v = λ i card command run_card at there. absurd (first_powers 0 v.scenario.cards i card command at)

-- a card that is asked is on
pub asks_on : (v : WorldSeen) (k i : ℕ) (card : CardData) (question : Option Question) (run_card : RunCardSeen) → IsNext v k
    → slice_get (checks v.scenario) k ≡ Some (check_by i card question) → slice_get v.run_cards i ≡ Some run_card → IfSome question (λ q. run_card_is_powered run_card ≡ true)
asks_on v k i card None run_card next at there = tt
asks_on v k i card (Some question) run_card next at there = next i card (question_command question) run_card at there

pub short_name : (s : ScenarioData) → IsScenario s → (i : ℕ) (card : CardData) → slice_get s.cards i ≡ Some card → length card.name ≤ 16
short_name s fits i card there =
    let rules : IsCard (get_or s.cards i card) = fits.tables.cards.each i card (slice_get_within s.cards i card there) in
    subst (λ (x : CardData). length x.name ≤ 16) (get_or_from_slice_get s.cards i card card there) rules.short_name
