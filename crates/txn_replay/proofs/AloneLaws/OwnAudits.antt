-- The audit of a lane's cards in a run with others: its own steps are those of the lane alone, in their order.
-- What they find and tell is the same in both runs.
use Rattle.std.proofs.Common.{◌≡◌, ◌≢◌, ℕ, zero, suc, ◌+◌, Bool, true, false, cond, List, [], ◌∷◌, ◌++◌, length, take, slice_get, Option, Some, None, refl, sym, ap, ◌∙◌, subst, arith}
use Rattle.std.specs.List.{flat_map, count_by}
use Rattle.std.specs.Prelude.{filter}
use Rattle.std.proofs.lemmas.List.{get_or-set_other, length-set}
use Rattle.std.proofs.lemmas.List.Elements.{filter-append}
use Rattle.std.proofs.lemmas.List.Sums.{length-filter}
use Rattle.std.proofs.lemmas.Option.{same_Some}
use Rattle.card_app.specs.Answering.{card_answer}
use Rattle.card_files.specs.Views.{AppData}
use Rattle.card_app.specs.Pages.{found_of}
use Rattle.scenario_plan.specs.Cards.{CardData}
use Rattle.scenario_plan.specs.Plan.{ScenarioData, IsScenario}
use Rattle.txn_replay.specs.Alone.{is_card_of, is_name_of, before_own, cards_alone, alone, PartsAgree, is_own}
use Rattle.txn_replay.specs.Changes.{powered, exchanged}
use Rattle.txn_replay.specs.Lines.{audit_power_line, audit_lines}
use Rattle.txn_replay.specs.StandAlone.{is_check_of}
use Rattle.txn_replay.specs.Steps.{Check, PowersUp, Asks, app_checks, checks_for, card_checks, checks_from, checks, choice_in, with_card, audits}
use Rattle.txn_replay.specs.World.{CardRow, World, new_card, card_at}
use Rattle.txn_replay.proofs.AuditLaws.AuditSteps.{IsChecked, check_facts}
use Rattle.txn_replay.proofs.AloneLaws.LaneAlone.{name_of}
use Rattle.txn_replay.proofs.AloneLaws.OwnLines.{AreOf, all_pass, none_passes}
use Rattle.txn_replay.proofs.AloneLaws.OwnTurns.{Both, Others, card_alike}

-- how many of the first elements pass
pub passed : {A : Type 0} → (A → Bool) → List A → ℕ → ℕ
passed test xs k = length (filter test (take k xs))

pub passed_counts : {A : Type 0} (test : A → Bool) (xs : List A) (k : ℕ) → passed test xs k ≡ count_by test (take k xs)
unfolding passed
passed_counts test xs k = length-filter test (take k xs)

pub passed_none : {A : Type 0} (test : A → Bool) (xs : List A) → passed test xs 0 ≡ 0
unfolding passed
passed_none test [] = refl
passed_none test (x ∷ xs) = refl

-- one that passes is there behind as many, and one that doesn't adds none
module _ {A : Type 0} (test : A → Bool) where
  pub passed_own : (xs : List A) (k : ℕ) (x : A) → slice_get xs k ≡ Some x → test x ≡ true
      → (slice_get (filter test xs) (passed test xs k) ≡ Some x) × (passed test xs (k + 1) ≡ passed test xs k + 1)
  unfolding passed
  passed_own xs k x there is =
      let found = from xs k there in (
        found.0,
        ap (λ n. length (filter test (take n xs))) (let e : k + 1 ≡ suc k = omega arith in e) ∙ found.1 ∙ (let e : suc (length (filter test (take k xs))) ≡ length (filter test (take k xs)) + 1 = omega arith in e),
      )
    where
      from : (ys : List A) (n : ℕ) → slice_get ys n ≡ Some x
          → (slice_get (filter test ys) (length (filter test (take n ys))) ≡ Some x) × (length (filter test (take (suc n) ys)) ≡ suc (length (filter test (take n ys))))
      from [] n at = cc
      from (y ∷ ys) zero at =
          let passes : test y ≡ true = ap test (same_Some y x at) ∙ is in (
            rw passes at,
            rw passes refl,
          )
      from (y ∷ ys) (suc n) at = by (test y) (from ys n at)
        where
          by : (b : Bool) → (slice_get (filter test ys) (length (filter test (take n ys))) ≡ Some x) × (length (filter test (take (suc n) ys)) ≡ suc (length (filter test (take n ys))))
              → (slice_get (cond b (y ∷ filter test ys) (filter test ys)) (length (cond b (y ∷ filter test (take n ys)) (filter test (take n ys)))) ≡ Some x)
              × (length (cond b (y ∷ filter test (take (suc n) ys)) (filter test (take (suc n) ys))) ≡ suc (length (cond b (y ∷ filter test (take n ys)) (filter test (take n ys)))))
          by true later = (later.0, ap (λ m. suc m) later.1)
          by false later = later

  pub passed_other : (xs : List A) (k : ℕ) (x : A) → slice_get xs k ≡ Some x → test x ≡ false → passed test xs (k + 1) ≡ passed test xs k
  unfolding passed
  passed_other xs k x there isnt = ap (λ n. length (filter test (take n xs))) (let e : k + 1 ≡ suc k = omega arith in e) ∙ from xs k there
    where
      from : (ys : List A) (n : ℕ) → slice_get ys n ≡ Some x → length (filter test (take (suc n) ys)) ≡ length (filter test (take n ys))
      from [] n at = cc
      from (y ∷ ys) zero at = let fails : test y ≡ false = ap test (same_Some y x at) ∙ isnt in rw fails refl
      from (y ∷ ys) (suc n) at = by (test y) (from ys n at)
        where
          by : (b : Bool) → length (filter test (take (suc n) ys)) ≡ length (filter test (take n ys))
              → length (cond b (y ∷ filter test (take (suc n) ys)) (filter test (take (suc n) ys))) ≡ length (cond b (y ∷ filter test (take n ys)) (filter test (take n ys)))
          by true later = ap (λ m. suc m) later
          by false later = later

  pub passed_past : (xs : List A) (k : ℕ) → slice_get xs k ≡ None → slice_get (filter test xs) (passed test xs k) ≡ None
  unfolding passed
  passed_past [] zero none = refl
  passed_past [] (suc k) none = refl
  passed_past (x ∷ xs) zero none = cc
  passed_past (x ∷ xs) (suc k) none = by (test x) (passed_past xs k none)
    where
      by : (b : Bool) → slice_get (filter test xs) (length (filter test (take k xs))) ≡ None
          → slice_get (cond b (x ∷ filter test xs) (filter test xs)) (length (cond b (x ∷ filter test (take k xs)) (filter test (take k xs)))) ≡ None
      by true later = later
      by false later = later

-- a check of a card that passes
abbrev pub is_on : (ℕ → Bool) → Check → Bool
is_on own check = is_check_of own (Some check)

module _ (own : ℕ → Bool) where
  asked_on : (i : ℕ) (card : CardData) (apps : List AppData) → AreOf (is_on own) (own i) (flat_map (app_checks i card) apps)
  asked_on i card [] = tt
  asked_on i card (app ∷ apps) = (refl, (refl, (refl, asked_on i card apps)))

  card_on : (i : ℕ) (card : CardData) (o : Option (List (List ℕ))) → AreOf (is_on own) (own i) (checks_for i card o)
  card_on i card None = (refl, asked_on i card card.image.apps)
  card_on i card (Some answers) = tt

  checks_own : (n : ℕ) (cards : List CardData) → checks_from n (cards_alone own n cards) ≡ filter (is_on own) (checks_from n cards)
  unfolding checks_from cards_alone
  checks_own n [] = refl
  checks_own n (card ∷ cards) =
      by (own n) (cards_alone own (n + 1) cards) (card_on n card card.canned)
      ∙ ap (λ (xs : List Check). filter (is_on own) (card_checks n card) ++ xs) (checks_own (n + 1) cards)
      ∙ sym (filter-append (is_on own) (card_checks n card) (checks_from (n + 1) cards))
    where
      by : (b : Bool) (rest : List CardData) → AreOf (is_on own) b (card_checks n card)
          → checks_from n (before_own b card rest) ≡ filter (is_on own) (card_checks n card) ++ checks_from (n + 1) rest
      by true rest are = ap (λ (xs : List Check). xs ++ checks_from (n + 1) rest) (sym (all_pass (is_on own) (card_checks n card) are))
      by false [] are = ap (λ (xs : List Check). xs ++ checks_from (n + 1) []) (sym (none_passes (is_on own) (card_checks n card) are))
      by false (other ∷ others) are =
          ap (λ (xs : List Check). xs ++ checks_from (n + 1) (other ∷ others)) (sym (none_passes (is_on own) (card_checks n card) are))

module _ (pans : List ℕ → Bool) (s : ScenarioData) (l : ℕ) where
  pub alone_checks : checks (alone pans s l) ≡ filter (is_on (is_card_of s l)) (checks s)
  alone_checks = checks_own (is_card_of s l) 0 s.cards

  module _ (w v : World) (agree : PartsAgree pans s l w v) (choices : List Bool) where
    cards_agree : (i : ℕ) (row few : CardRow) → is_card_of s l i ≡ true → few ≡ row → PartsAgree pans s l (with_card w i row) (with_card v i few)
    cards_agree i row few its same = record {
      lane = agree.lane;
      others = agree.others;
      cards = λ j own. card_alike pans s l w v agree i j row few its own same;
      messages = agree.messages;
      lane_count = agree.lane_count;
      card_count = length-set w.cards i row ∙ agree.card_count;
      lanes_alone = agree.lanes_alone;
      cards_alone = length-set v.cards i few ∙ agree.cards_alone;
    }

    card_aside : (i : ℕ) (row : CardRow) → is_card_of s l i ≡ false → PartsAgree pans s l (with_card w i row) v
    card_aside i row isnt = record {
      lane = agree.lane;
      others = agree.others;
      cards = λ j own. agree.cards j own ∙ sym (get_or-set_other w.cards i j row new_card (not_it j own));
      messages = agree.messages;
      lane_count = agree.lane_count;
      card_count = length-set w.cards i row ∙ agree.card_count;
      lanes_alone = agree.lanes_alone;
      cards_alone = agree.cards_alone;
    }
      where
        not_it : (j : ℕ) → is_card_of s l j ≡ true → j ≢ i
        not_it j own same = let never : true ≡ false = sym own ∙ ap (is_card_of s l) same ∙ isnt in cc

    -- what a check tells is its card's
    module _ (fits : IsScenario s) (k : ℕ) where
      check_name : (i : ℕ) (card : CardData) (place : ℕ) → i ≡ 0 + place → slice_get s.cards place ≡ Some card → is_name_of s l card.name ≡ is_card_of s l i
      check_name i card place is there =
          name_of s l fits place card there ∙ ap (is_card_of s l) (let e : place ≡ i = omega (arith, is) in e)

      pub audit_tells : (check : Check) → slice_get (checks s) k ≡ Some check
          → AreOf (is_own pans s l) (is_on (is_card_of s l) check) (audits w choices (Some check)).lines
      audit_tells (PowersUp i card) here =
          let one : IsChecked s.cards 0 (PowersUp i card) = check_facts s k (PowersUp i card) here in
          (check_name i card one.place one.of_it.0 (one.there ∙ ap (λ (x : CardData). Some x) (sym one.of_it.1)), tt)
      audit_tells (Asks i card command) here =
          let one : IsChecked s.cards 0 (Asks i card command) = check_facts s k (Asks i card command) here in
          let name : is_name_of s l card.name ≡ is_card_of s l i =
          check_name i card one.place one.of_it.0 (one.there ∙ ap (λ (x : CardData). Some x) (sym one.of_it.1)) in
          (name, (name, tt))

      pub own_audits : (check : Check) → slice_get (checks s) k ≡ Some check → is_on (is_card_of s l) check ≡ true
          → Both pans s l (audits w choices (Some check)) (audits v choices (Some check))
      own_audits check here own = both check own (all_pass (is_own pans s l) (audits w choices (Some check)).lines
          (subst (λ b. AreOf (is_own pans s l) b (audits w choices (Some check)).lines) own (audit_tells check here)))
        where
          both : (x : Check) → is_on (is_card_of s l) x ≡ true → filter (is_own pans s l) (audits w choices (Some x)).lines ≡ (audits w choices (Some x)).lines
              → Both pans s l (audits w choices (Some x)) (audits v choices (Some x))
          both (PowersUp i card) its told = record {
            lines = ap (λ (row : CardRow). audit_power_line card (found_of row.kept row.pending (choice_in choices 0)) ∷ []) (agree.cards i its);
            told = told;
            choices = refl;
            parts = cards_agree i (after (card_at w i)) (after (card_at v i)) its (ap after (agree.cards i its));
          }
            where
              after : CardRow → CardRow
              after row = powered row (found_of row.kept row.pending (choice_in choices 0)) row.holder
          both (Asks i card command) its told = record {
            lines = ap (λ (row : CardRow). audit_lines card command (card_answer card.image row.kept row.session command).answer) (agree.cards i its);
            told = told;
            choices = refl;
            parts = cards_agree i (after (card_at w i)) (after (card_at v i)) its (ap after (agree.cards i its));
          }
            where
              after : CardRow → CardRow
              after row = exchanged card.image row command (card_answer card.image row.kept row.session command)

      pub other_audits : (check : Check) → slice_get (checks s) k ≡ Some check → is_on (is_card_of s l) check ≡ false
          → Others pans s l (audits w choices (Some check)) v
      other_audits check here isnt = record {
        none =
            none_passes (is_own pans s l) (audits w choices (Some check)).lines
            (subst (λ b. AreOf (is_own pans s l) b (audits w choices (Some check)).lines) isnt (audit_tells check here));
        parts = aside check isnt;
      }
        where
          aside : (x : Check) → is_on (is_card_of s l) x ≡ false → PartsAgree pans s l (audits w choices (Some x)).world v
          aside (PowersUp i card) no_it =
              card_aside i (powered (card_at w i) (found_of (card_at w i).kept (card_at w i).pending (choice_in choices 0)) (card_at w i).holder) no_it
          aside (Asks i card command) no_it =
              card_aside i (exchanged card.image (card_at w i) command (card_answer card.image (card_at w i).kept (card_at w i).session command)) no_it
