-- The steps of an audit: each is of one of the scenario's cards, and its commands decide nothing.
-- So an audit leaves the decisions of every card, and no one's turn on it.
use Rattle.std.proofs.Common.{◌≡◌, ℕ, false, zero, suc, ◌+◌, List, [], ◌∷◌, slice_get, Option, Some, None, refl, subst, inl, inr, arith}
use Rattle.std.specs.List.{flat_map}
use Rattle.std.proofs.lemmas.Option.{same_Some}
use Rattle.app_select.specs.Said.{select_command}
use Rattle.apdu_core.specs.Command.{command_of}
use Rattle.card_files.specs.Views.{AppData}
use Rattle.risk_mgmt.specs.Counters.{counter_tag, last_online_tag, get_data}
use Rattle.scenario_plan.specs.Cards.{CardData}
use Rattle.scenario_plan.specs.Plan.{ScenarioData}
use Rattle.txn_replay.specs.Changes.{is_generate}
use Rattle.txn_replay.specs.Steps.{Check, PowersUp, Asks, app_checks, checks_for, card_checks, checks_from, checks}
use Rattle.txn_replay.proofs.Lists.{append_at}
use Rattle.txn_replay.proofs.CardLaws.CardDecisions.{Idles, select_idles, data_idles, select_plain, data_plain}

-- this check is of the card of this number among these, and where it asks a command, that one decides nothing and is no
-- GENERATE AC
abbrev pub IsCheckOf : ℕ → CardData → Check → Type 0
IsCheckOf i card (PowersUp j other) = (j ≡ i) × (other ≡ card)
IsCheckOf i card (Asks j other command) = (j ≡ i) × (other ≡ card) × Idles command × (is_generate (command_of command) ≡ false)

pub record IsChecked (cards : List CardData) (n : ℕ) (check : Check) : Type 0 where
  pub place : ℕ
  pub card : CardData
  pub there : slice_get cards place ≡ Some card
  pub of_it : IsCheckOf (n + place) card check

asked_of : (i : ℕ) (card : CardData) (apps : List AppData) (k : ℕ) (check : Check) → slice_get (flat_map (app_checks i card) apps) k ≡ Some check
    → IsCheckOf i card check
asked_of i card [] k check here = cc
asked_of i card (app ∷ apps) zero check here =
    subst (λ (c : Check). IsCheckOf i card c) (same_Some (Asks i card (select_command 0 app.name)) check here) (refl, refl, select_idles app.name, select_plain app.name)
asked_of i card (app ∷ apps) (suc zero) check here =
    subst (λ (c : Check). IsCheckOf i card c) (same_Some (Asks i card (get_data counter_tag)) check here) (refl, refl, data_idles counter_tag, data_plain counter_tag)
asked_of i card (app ∷ apps) (suc (suc zero)) check here =
    subst (λ (c : Check). IsCheckOf i card c) (same_Some (Asks i card (get_data last_online_tag)) check here) (refl, refl, data_idles last_online_tag, data_plain last_online_tag)
asked_of i card (app ∷ apps) (suc (suc (suc k))) check here = asked_of i card apps k check here

pub card_check_of : (i : ℕ) (card : CardData) (k : ℕ) (check : Check) → slice_get (card_checks i card) k ≡ Some check → IsCheckOf i card check
card_check_of i card k check here = by_kind card.canned k here
  where
    by_kind : (o : Option (List (List ℕ))) (k : ℕ) → slice_get (checks_for i card o) k ≡ Some check → IsCheckOf i card check
    by_kind None zero here = subst (λ (c : Check). IsCheckOf i card c) (same_Some (PowersUp i card) check here) (refl, refl)
    by_kind None (suc k) here = asked_of i card card.image.apps k check here
    by_kind (Some answers) k here = cc

checked_from : (cards : List CardData) (n k : ℕ) (check : Check) → slice_get (checks_from n cards) k ≡ Some check → IsChecked cards n check
unfolding checks_from
checked_from [] n k check here = cc
checked_from (card ∷ cards) n k check here =
    elim (append_at (card_checks n card) (checks_from (n + 1) cards) k check here) [
      | inl own ↦ record {
        place = 0;
        card = card;
        there = refl;
        of_it = subst (λ i. IsCheckOf i card check) (let e : n ≡ n + 0 = omega arith in e) (card_check_of n card k check own);
      }
      | inr later ↦ one_more (checked_from cards (n + 1) later.0 check later.1)
    ]
  where
    one_more : IsChecked cards (n + 1) check → IsChecked (card ∷ cards) n check
    one_more c = record {
      place = suc c.place;
      card = c.card;
      there = c.there;
      of_it = subst (λ i. IsCheckOf i c.card check) (let e : n + 1 + c.place ≡ n + suc c.place = omega arith in e) c.of_it;
    }

-- a step of a scenario's audit
pub check_facts : (s : ScenarioData) (k : ℕ) (check : Check) → slice_get (checks s) k ≡ Some check → IsChecked s.cards 0 check
check_facts s k check here = checked_from s.cards 0 k check here
