-- The steps of an audit follow one another: behind a step comes one of the same card, or a power-up.
-- So a card that is asked was turned on by the step before it.
use Rattle.std.proofs.Common.{◌≡◌, ◌⊎◌, ℕ, ◌+◌, ◌-◌, ◌≤◌, ◌<◌, List, [], ◌∷◌, ◌++◌, length, slice_get, Option, Some, None, sym, ap, ◌∙◌, inl, inr, arith}
use Rattle.std.proofs.lemmas.Bool.{cases_lt}
use Rattle.scenario_plan.specs.Cards.{CardData}
use Rattle.txn_replay.specs.Steps.{Check, PowersUp, Asks, checks_for, card_checks, checks_from}
use Rattle.txn_replay.proofs.AuditLaws.AuditSteps.{IsCheckOf, card_check_of}
use Rattle.txn_replay.proofs.Lists.{append_second, found_first}

abbrev pub index_of : Check → ℕ
index_of (PowersUp i card) = i
index_of (Asks i card command) = i

of_index : (i : ℕ) (card : CardData) (check : Check) → IsCheckOf i card check → index_of check ≡ i
of_index i card (PowersUp j other) is = is.0
of_index i card (Asks j other command) is = is.0

pub first_powers : (n : ℕ) (cards : List CardData) (i : ℕ) (card : CardData) (command : List ℕ) → slice_get (checks_from n cards) 0 ≡ Some (Asks i card command) → ⊥
unfolding checks_from
first_powers n [] i card command here = cc
first_powers n (c ∷ cards) i card command here = by_kind c.canned here (first_powers (n + 1) cards i card command)
  where
    by_kind : (o : Option (List (List ℕ))) → slice_get (checks_for n c o ++ checks_from (n + 1) cards) 0 ≡ Some (Asks i card command)
        → (slice_get (checks_from (n + 1) cards) 0 ≡ Some (Asks i card command) → ⊥) → ⊥
    by_kind None here others = cc
    by_kind (Some answers) here others = others here

pub asks_follow : (n : ℕ) (cards : List CardData) (k : ℕ) (check : Check) (i : ℕ) (card : CardData) (command : List ℕ)
    → slice_get (checks_from n cards) k ≡ Some check → slice_get (checks_from n cards) (k + 1) ≡ Some (Asks i card command) → index_of check ≡ i
unfolding checks_from
asks_follow n [] k check i card command here next = cc
asks_follow n (first ∷ cards) k check i card command here next =
    by (cases_lt (k + 1) (length own)) (λ j at after. asks_follow (n + 1) cards j check i card command at after)
  where
    own : List Check
    own = card_checks n first

    rest : List Check
    rest = checks_from (n + 1) cards

    by : (k + 1 < length own) ⊎ (length own ≤ k + 1)
        → ((j : ℕ) → slice_get rest j ≡ Some check → slice_get rest (j + 1) ≡ Some (Asks i card command) → index_of check ≡ i) → index_of check ≡ i
    by (inl within) later =
        of_index n first check (card_check_of n first k check (found_first own rest k check (omega arith) here))
        ∙ sym (of_index n first (Asks i card command) (card_check_of n first (k + 1) (Asks i card command) (found_first own rest (k + 1) (Asks i card command) within next)))
    by (inr past) later = behind (cases_lt k (length own))
      where
        behind : (k < length own) ⊎ (length own ≤ k) → index_of check ≡ i
        behind (inl last) =
            let place : k + 1 ≡ length own + 0 = omega arith in
            absurd (first_powers (n + 1) cards i card command (sym (append_second own rest 0) ∙ ap (λ m. slice_get (own ++ rest) m) (sym place) ∙ next))
        behind (inr beyond) =
            let place : k ≡ length own + (k - length own) = omega arith in
            let after : k + 1 ≡ length own + (k - length own + 1) = omega arith in
            later (k - length own)
            (sym (append_second own rest (k - length own)) ∙ ap (λ m. slice_get (own ++ rest) m) (sym place) ∙ here)
            (sym (append_second own rest (k - length own + 1)) ∙ ap (λ m. slice_get (own ++ rest) m) (sym after) ∙ next)
