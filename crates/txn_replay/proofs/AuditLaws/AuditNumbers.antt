-- The step of an audit of a number.
-- It is the power-up of a card with applications, or the question of a number to one of these.
use Rattle.std.proofs.Common.{◌≡◌, ℕ, zero, suc, ◌+◌, ◌-◌, ◌*◌, ◌/◌, ◌%◌, ◌≤◌, List, [], ◌∷◌, ◌++◌, length, drop, slice_get, Option, Some, None, refl, sym, ap, ◌∙◌, arith}
use Rattle.std.specs.List.{flat_map}
use Rattle.std.specs.Prelude.{option_map}
use Rattle.std.proofs.lemmas.Option.{slice_get-map}
use Rattle.card_files.specs.Views.{AppData}
use Rattle.scenario_plan.specs.Cards.{CardData}
use Rattle.scenario_plan.specs.SeenCards.{image_of, canned_of, seen_card, seen_cards}
use Rattle.scenario_plan.specs.declared.plan.NamedCard.{NamedCard}
use Rattle.txn_replay.specs.Audited.{audit_question}
use Rattle.txn_replay.specs.Steps.{Check, PowersUp, app_checks, checks_for, card_checks, checks_from}
use Rattle.txn_replay.proofs.RunLaws.FewEvents.{asks_length}
use Rattle.txn_replay.proofs.Lists.{append_first, append_second, drop_at, drop_past}

pub question_at : (i : ℕ) (card : CardData) (apps : List AppData) (k : ℕ)
    → slice_get (flat_map (app_checks i card) apps) k ≡ option_map (λ app. audit_question i card app (k % 3)) (slice_get apps (k / 3))
question_at i card [] k = refl
question_at i card (app ∷ apps) zero = refl
question_at i card (app ∷ apps) (suc zero) = refl
question_at i card (app ∷ apps) (suc (suc zero)) = refl
question_at i card (app ∷ apps) (suc (suc (suc k))) =
    let place : suc (suc (suc k)) / 3 ≡ suc (k / 3) = omega arith in
    let rest : suc (suc (suc k)) % 3 ≡ k % 3 = omega arith in
    question_at i card apps k
    ∙ ap (λ r. option_map (λ a. audit_question i card a r) (slice_get apps (k / 3))) (sym rest)
    ∙ ap (λ n. option_map (λ a. audit_question i card a (suc (suc (suc k)) % 3)) (slice_get (app ∷ apps) n)) (sym place)

-- the checks of a card and of those behind it
pub next_card : (cards : List CardData) (i : ℕ) (card : CardData) → slice_get cards i ≡ Some card
    → checks_from i (drop i cards) ≡ card_checks i card ++ checks_from (i + 1) (drop (i + 1) cards)
unfolding checks_from
next_card cards i card here = ap (λ (cs : List CardData). checks_from i cs) (drop_at cards i card here)

-- one of this card
pub own_check : (cards : List CardData) (i : ℕ) (card : CardData) (k : ℕ) (check : Check) → slice_get cards i ≡ Some card
    → slice_get (card_checks i card) k ≡ Some check → slice_get (checks_from i (drop i cards)) k ≡ Some check
own_check cards i card k check here own =
    ap (λ (cs : List Check). slice_get cs k) (next_card cards i card here)
    ∙ append_first (card_checks i card) (checks_from (i + 1) (drop (i + 1) cards)) k check own

-- those of a card with applications
of_apps : (i : ℕ) (card : CardData) → card.canned ≡ None → card_checks i card ≡ PowersUp i card ∷ flat_map (app_checks i card) card.image.apps
of_apps i card apps = ap (λ (o : Option (List (List ℕ))). checks_for i card o) apps

pub power_check : (i : ℕ) (card : CardData) → card.canned ≡ None → slice_get (card_checks i card) 0 ≡ Some (PowersUp i card)
power_check i card apps = ap (λ (cs : List Check). slice_get cs 0) (of_apps i card apps)

pub asked_check : (i : ℕ) (card : CardData) (k : ℕ) (check : Check) → card.canned ≡ None → 1 ≤ k
    → slice_get (flat_map (app_checks i card) card.image.apps) (k - 1) ≡ Some check → slice_get (card_checks i card) k ≡ Some check
asked_check i card k check apps some own =
    let e : k ≡ suc (k - 1) = omega arith in
    ap (λ (cs : List Check). slice_get cs k) (of_apps i card apps)
    ∙ ap (λ n. slice_get (PowersUp i card ∷ flat_map (app_checks i card) card.image.apps) n) e
    ∙ own

-- and one of those behind it
pub later_check : (cards : List CardData) (i : ℕ) (card : CardData) (k : ℕ) → slice_get cards i ≡ Some card → card.canned ≡ None
    → 1 + 3 * length card.image.apps ≤ k
    → slice_get (checks_from i (drop i cards)) k ≡ slice_get (checks_from (i + 1) (drop (i + 1) cards)) (k - (1 + 3 * length card.image.apps))
later_check cards i card k here apps past =
    let asks : length (flat_map (app_checks i card) card.image.apps) ≡ 3 * length card.image.apps = asks_length i card card.image.apps in
    let count : length (card_checks i card) ≡ length (PowersUp i card ∷ flat_map (app_checks i card) card.image.apps) =
    ap (λ (cs : List Check). length cs) (of_apps i card apps) in
    let place : k ≡ length (card_checks i card) + (k - (1 + 3 * length card.image.apps)) = omega arith in
    ap (λ (cs : List Check). slice_get cs k) (next_card cards i card here)
    ∙ ap (λ n. slice_get (card_checks i card ++ checks_from (i + 1) (drop (i + 1) cards)) n) place
    ∙ append_second (card_checks i card) (checks_from (i + 1) (drop (i + 1) cards)) (k - (1 + 3 * length card.image.apps))

-- a card of canned answers is passed over
pub passed_check : (cards : List CardData) (i : ℕ) (card : CardData) (answers : List (List ℕ)) (k : ℕ) → slice_get cards i ≡ Some card
    → card.canned ≡ Some answers → slice_get (checks_from i (drop i cards)) k ≡ slice_get (checks_from (i + 1) (drop (i + 1) cards)) k
passed_check cards i card answers k here canned =
    ap (λ (cs : List Check). slice_get cs k) (next_card cards i card here)
    ∙ ap (λ (o : Option (List (List ℕ))). slice_get (checks_for i card o ++ checks_from (i + 1) (drop (i + 1) cards)) k) canned

pub no_check : (cards : List CardData) (i k : ℕ) → length cards ≤ i → slice_get (checks_from i (drop i cards)) k ≡ None
unfolding checks_from
no_check cards i k past = ap (λ (cs : List CardData). slice_get (checks_from i cs) k) (drop_past cards i past)

-- the card of an index, as the definitions see it
pub seen_at : (cards : List NamedCard) (i : ℕ) (card : NamedCard) → slice_get cards i ≡ Some card → slice_get (seen_cards cards) i ≡ Some (seen_card card)
seen_at cards i card here = slice_get-map seen_card cards i ∙ ap (option_map seen_card) here

pub seen_image : (card : NamedCard) → (seen_card card).image ≡ image_of card.kind
unfolding seen_card
seen_image card = refl

pub seen_canned : (card : NamedCard) → (seen_card card).canned ≡ canned_of card.kind
unfolding seen_card
seen_canned card = refl
