-- The scenario in which a lane is alone: its purchases are there, with the accounts of its numbers, and no others.
-- So what the lane does alone rests on its own cards, its own accounts and its own row of the scenario.
use Rattle.std.proofs.Common.{◌≡◌, ◌≢◌, ◌⊎◌, ℕ, zero, suc, ◌+◌, ◌≤◌, ◌<◌, ◌==◌, Bool, true, false, ◌&&◌, ◌||◌, List, [], ◌∷◌, length, slice_get, Option, Some, None, option_map, refl, sym, ap, ◌∙◌, subst, inl, inr, arith}
use Rattle.std.specs.List.{list_any}
use Rattle.std.specs.Prelude.{option_and_then}
use Rattle.std.specs.Str.{bytes_eq}
use Rattle.std.proofs.lemmas.Bool.{eq-eqb, cases_eq}
use Rattle.std.proofs.lemmas.Option.{same_Some}
use Rattle.std.proofs.lemmas.Slice.Eq.{bytes_eq-Decides}
use Rattle.scenario_plan.specs.Cards.{CardData}
use Rattle.scenario_plan.specs.Plan.{ScenarioData, IsScenario}
use Rattle.scenario_lanes.specs.Plan.{LaneData}
use Rattle.scenario_lanes.specs.declared.plan.Planned.{Planned}
use Rattle.txn_replay.specs.Alone.{names_card, is_card_of, before_own, cards_alone, idle, behind_idle, lanes_alone, alone, names_one, is_name_of, LaneHasNoChoice}
use Rattle.txn_replay.specs.Choices.{HasNoChoice, LeavesNone}
use Rattle.txn_replay.specs.Payment.{Payment, payment_with, payment_of, payment_on, payment_in, is_iso, dialect_of, is_durable, durable_of}
use Rattle.txn_replay.proofs.CardLaws.CardLosses.{names_differ}
use Rattle.txn_replay.proofs.AloneLaws.OwnPieces.{at_own}

-- the lane keeps its number, and the lanes before it have no purchases
lane_here : (l : ℕ) (lane : LaneData) → slice_get (behind_idle l lane) l ≡ Some lane
unfolding behind_idle
lane_here zero lane = refl
lane_here (suc l) lane = lane_here l lane

lane_elsewhere : (l k : ℕ) (lane : LaneData) → k ≢ l → (slice_get (behind_idle l lane) k ≡ None) ⊎ (slice_get (behind_idle l lane) k ≡ Some (idle lane))
unfolding behind_idle
lane_elsewhere zero zero lane other = absurd (other refl)
lane_elsewhere zero (suc k) lane other = inl refl
lane_elsewhere (suc l) zero lane other = inr refl
lane_elsewhere (suc l) (suc k) lane other = lane_elsewhere l k lane (λ same. other (ap (λ n. suc n) same))

idle_count : (l : ℕ) (lane : LaneData) → length (behind_idle l lane) ≡ suc l
unfolding behind_idle
idle_count zero lane = refl
idle_count (suc l) lane = ap (λ n. suc n) (idle_count l lane)

-- a card that passes is there
pub own_here : (own : ℕ → Bool) (n : ℕ) → own (n + 0) ≡ own n
own_here own n = ap own (let e : n + 0 ≡ n = omega arith in e)

pub own_next : (own : ℕ → Bool) (n i : ℕ) → own (n + suc i) ≡ own (n + 1 + i)
own_next own n i = ap own (let e : n + suc i ≡ n + 1 + i = omega arith in e)

next_place : (b : Bool) (card : CardData) (cards : List CardData) (i : ℕ) → slice_get (before_own b card cards) (suc i) ≡ slice_get cards i
next_place true card cards i = refl
next_place false card [] i = refl
next_place false card (other ∷ others) i = refl

own_card : (own : ℕ → Bool) (n : ℕ) (cards : List CardData) (i : ℕ) → own (n + i) ≡ true → slice_get (cards_alone own n cards) i ≡ slice_get cards i
unfolding cards_alone
own_card own n [] i is = refl
own_card own n (card ∷ cards) zero is =
    ap (λ b. slice_get (before_own b card (cards_alone own (n + 1) cards)) 0) (sym (own_here own n) ∙ is)
own_card own n (card ∷ cards) (suc i) is =
    next_place (own n) card (cards_alone own (n + 1) cards) i ∙ own_card own (n + 1) cards i (sym (own_next own n i) ∙ is)

-- so it is within both lists or in neither
few_before : (b : Bool) (card : CardData) (cards : List CardData) → length (before_own b card cards) ≤ suc (length cards)
few_before true card cards = omega arith
few_before false card [] = omega arith
few_before false card (other ∷ others) = omega arith

some_before : (b : Bool) (card : CardData) (cards : List CardData) (i : ℕ) → i < length cards → suc i < length (before_own b card cards)
some_before true card cards i within = omega (arith, within)
some_before false card [] i within = absurd (omega (arith, within))
some_before false card (other ∷ others) i within = omega (arith, within)

cards_few : (own : ℕ → Bool) (n : ℕ) (cards : List CardData) → length (cards_alone own n cards) ≤ length cards
unfolding cards_alone
cards_few own n [] = omega arith
cards_few own n (card ∷ cards) =
    omega (arith, cards_few own (n + 1) cards, few_before (own n) card (cards_alone own (n + 1) cards))

own_within : (own : ℕ → Bool) (n : ℕ) (cards : List CardData) (i : ℕ) → own (n + i) ≡ true → i < length cards → i < length (cards_alone own n cards)
unfolding cards_alone
own_within own n [] i is within = absurd (omega (arith, within))
own_within own n (card ∷ cards) zero is within =
    subst (λ b. 0 < length (before_own b card (cards_alone own (n + 1) cards))) (sym (sym (own_here own n) ∙ is)) (omega arith)
own_within own n (card ∷ cards) (suc i) is within =
    some_before (own n) card (cards_alone own (n + 1) cards) i (own_within own (n + 1) cards i (sym (own_next own n i) ∙ is) (omega (arith, within)))

pub cards_within : (pans : List ℕ → Bool) (s : ScenarioData) (l i : ℕ) → is_card_of s l i ≡ true → i < length s.cards → i < length (alone pans s l).cards
cards_within pans s l i is within = own_within (is_card_of s l) 0 s.cards i (ap (is_card_of s l) (let e : 0 + i ≡ i = omega arith in e) ∙ is) within

pub cards_are_few : (pans : List ℕ → Bool) (s : ScenarioData) (l : ℕ) → length (alone pans s l).cards ≤ length s.cards
cards_are_few pans s l = cards_few (is_card_of s l) 0 s.cards

true_or : (b : Bool) → (b || true) ≡ true
true_or true = refl
true_or false = refl

pub some_passes : {A : Type 0} (test : A → Bool) (xs : List A) (i : ℕ) (x : A) → slice_get xs i ≡ Some x → test x ≡ true → list_any test xs ≡ true
some_passes test [] i x there is = cc
some_passes test (y ∷ ys) zero x there is = ap (λ b. b || list_any test ys) (ap test (same_Some y x there) ∙ is)
some_passes test (y ∷ ys) (suc i) x there is = ap (λ b. test y || b) (some_passes test ys i x there is) ∙ true_or (test y)

-- the card of a purchase of the lane is its own
planned_own : (s : ScenarioData) (l n : ℕ) (lane : LaneData) (planned : Planned) → slice_get s.lanes l ≡ Some lane → slice_get lane.purchases n ≡ Some planned
    → is_card_of s l planned.card ≡ true
unfolding is_card_of
planned_own s l n lane planned here there =
    ap (λ (o : Option LaneData). names_card o planned.card) here
    ∙ some_passes (λ (other : Planned). other.card == planned.card) lane.purchases n planned there (eq-eqb planned.card planned.card refl)

pub payment_own : (s : ScenarioData) (l n : ℕ) (p : Payment) → payment_in s l n ≡ Some p → is_card_of s l p.planned.card ≡ true
unfolding payment_in
payment_own s l n p is = by_lane (slice_get s.lanes l) refl is
  where
    by_card : (lane : LaneData) (planned : Planned) (o : Option CardData) → is_card_of s l planned.card ≡ true
        → option_map (payment_with s l lane planned) o ≡ Some p → is_card_of s l p.planned.card ≡ true
    by_card lane planned None own at = cc
    by_card lane planned (Some card) own at =
        subst (λ (q : Payment). is_card_of s l q.planned.card ≡ true) (same_Some (payment_with s l lane planned card) p at) own

    by_planned : (lane : LaneData) (o : Option Planned) → slice_get s.lanes l ≡ Some lane → slice_get lane.purchases n ≡ o
        → option_and_then (payment_of s l lane) o ≡ Some p → is_card_of s l p.planned.card ≡ true
    by_planned lane None here there at = cc
    by_planned lane (Some planned) here there at = by_card lane planned (slice_get s.cards planned.card) (planned_own s l n lane planned here there) at

    by_lane : (o : Option LaneData) → slice_get s.lanes l ≡ o → option_and_then (payment_on s l n) o ≡ Some p → is_card_of s l p.planned.card ≡ true
    by_lane None here at = cc
    by_lane (Some lane) here at = by_planned lane (slice_get lane.purchases n) here refl at

module _ (pans : List ℕ → Bool) (s : ScenarioData) (l : ℕ) where
  -- its purchases
  pub own_payment : (n : ℕ) → payment_in (alone pans s l) l n ≡ option_map (at_own pans) (payment_in s l n)
  unfolding payment_in
  own_payment n = by (slice_get s.lanes l) refl
    where
      by_card : (lane : LaneData) (planned : Planned) (o : Option CardData)
          → option_map (payment_with (alone pans s l) l lane planned) o ≡ option_map (at_own pans) (option_map (payment_with s l lane planned) o)
      by_card lane planned None = refl
      by_card lane planned (Some card) = refl

      by_planned : (lane : LaneData) (o : Option Planned) → slice_get s.lanes l ≡ Some lane → slice_get lane.purchases n ≡ o
          → option_and_then (payment_of (alone pans s l) l lane) o ≡ option_map (at_own pans) (option_and_then (payment_of s l lane) o)
      by_planned lane None here there = refl
      by_planned lane (Some planned) here there =
          ap (option_map (payment_with (alone pans s l) l lane planned))
          (own_card (is_card_of s l) 0 s.cards planned.card
          (ap (is_card_of s l) (let e : 0 + planned.card ≡ planned.card = omega arith in e) ∙ planned_own s l n lane planned here there))
          ∙ by_card lane planned (slice_get s.cards planned.card)

      by : (o : Option LaneData) → slice_get s.lanes l ≡ o
          → option_and_then (payment_on (alone pans s l) l n) (slice_get (lanes_alone l o) l) ≡ option_map (at_own pans) (option_and_then (payment_on s l n) o)
      by None here = refl
      by (Some lane) here =
          ap (λ (o : Option LaneData). option_and_then (payment_on (alone pans s l) l n) o) (lane_here l lane)
          ∙ by_planned lane (slice_get lane.purchases n) here refl

  -- no other lane has any
  module _ (k : ℕ) (other : k ≢ l) where
    pub idle_payment : (n : ℕ) → payment_in (alone pans s l) k n ≡ None
    unfolding payment_in
    idle_payment n = by (slice_get s.lanes l)
      where
        by : (o : Option LaneData) → option_and_then (payment_on (alone pans s l) k n) (slice_get (lanes_alone l o) k) ≡ None
        by None = refl
        by (Some lane) =
            elim (lane_elsewhere l k lane other) [
              | inl past ↦ ap (λ (o : Option LaneData). option_and_then (payment_on (alone pans s l) k n) o) past
              | inr before ↦ ap (λ (o : Option LaneData). option_and_then (payment_on (alone pans s l) k n) o) before
            ]

    pub idle_plain : durable_of (alone pans s l) k ≡ false
    idle_plain = by (slice_get s.lanes l)
      where
        by : (o : Option LaneData) → is_durable (slice_get (lanes_alone l o) k) ≡ false
        by None = refl
        by (Some lane) =
            elim (lane_elsewhere l k lane other) [
              | inl past ↦ ap is_durable past
              | inr before ↦ ap is_durable before
            ]

  lane_alone : slice_get (alone pans s l).lanes l ≡ slice_get s.lanes l
  lane_alone = by (slice_get s.lanes l)
    where
      by : (o : Option LaneData) → slice_get (lanes_alone l o) l ≡ o
      by None = refl
      by (Some lane) = lane_here l lane

  pub own_durable : durable_of (alone pans s l) l ≡ durable_of s l
  own_durable = ap is_durable lane_alone

  pub own_dialect : dialect_of (alone pans s l) l ≡ dialect_of s l
  own_dialect = ap is_iso lane_alone

  pub lanes_count : l < length s.lanes → length (alone pans s l).lanes ≡ l + 1
  lanes_count inside = by (slice_get s.lanes l) refl
    where
      by : (o : Option LaneData) → slice_get s.lanes l ≡ o → length (lanes_alone l o) ≡ l + 1
      by None none = absurd (none_past s.lanes l inside none)
        where
          none_past : {A : Type 0} (xs : List A) (i : ℕ) → i < length xs → slice_get xs i ≡ None → ⊥
          none_past [] i within none = absurd (omega (arith, within))
          none_past (x ∷ xs) zero within none = cc
          none_past (x ∷ xs) (suc i) within none = none_past xs i (omega (arith, within)) none
      by (Some lane) there = idle_count l lane ∙ (let e : suc l ≡ l + 1 = omega arith in e)

  -- where the lane's purchases leave no choice, none of it does
  pub leaves_none : LaneHasNoChoice s l → LeavesNone (alone pans s l)
  leaves_none none k n p is = elim (cases_eq k l) [
    | inl this ↦ own (payment_in s l n) refl (ap (λ m. payment_in (alone pans s l) m n) (sym this) ∙ is)
    | inr other ↦ absurd (never (sym (idle_payment k other n) ∙ is))
  ]
    where
      never : None ≡ Some p → ⊥
      never same = cc

      own : (o : Option Payment) → payment_in s l n ≡ o → payment_in (alone pans s l) l n ≡ Some p → HasNoChoice p
      own None there at = absurd (never (ap (option_map (at_own pans)) (sym there) ∙ sym (own_payment n) ∙ at))
      own (Some q) there at =
          let same : at_own pans q ≡ p =
          same_Some (at_own pans q) p (ap (option_map (at_own pans)) (sym there) ∙ sym (own_payment n) ∙ at) in
          subst HasNoChoice same (record { card = (none n q there).card; terminal = (none n q there).terminal })

-- a name is one of those of the lane's cards exactly where its card is
module _ (own : ℕ → Bool) where
  none_of : (n : ℕ) (cards : List CardData) (name : List ℕ)
      → ((i : ℕ) (card : CardData) → slice_get cards i ≡ Some card → (own (n + i) && bytes_eq card.name name) ≡ false) → names_one own n cards name ≡ false
  unfolding names_one
  none_of n [] name none = refl
  none_of n (card ∷ cards) name none =
      ap (λ b. b || names_one own (n + 1) cards name) (ap (λ m. own m && bytes_eq card.name name) (let e : n ≡ n + 0 = omega arith in e) ∙ none 0 card refl)
      ∙ none_of (n + 1) cards name
      (λ i other there.
      ap (λ m. own m && bytes_eq other.name name) (let e : n + 1 + i ≡ n + suc i = omega arith in e) ∙ none (suc i) other there)

  one_of : (n : ℕ) (cards : List CardData) (i : ℕ) (card : CardData) → slice_get cards i ≡ Some card → own (n + i) ≡ true → names_one own n cards card.name ≡ true
  unfolding names_one
  one_of n [] i card there is = cc
  one_of n (first ∷ cards) zero card there is =
      ap (λ b. b || names_one own (n + 1) cards card.name)
      (ap (λ b. b && bytes_eq first.name card.name) (ap own (let e : n ≡ n + 0 = omega arith in e) ∙ is)
      ∙ (bytes_eq-Decides first.name card.name).1 (ap (λ (x : CardData). x.name) (same_Some first card there)))
  one_of n (first ∷ cards) (suc i) card there is =
      ap (λ b. (own n && bytes_eq first.name card.name) || b)
      (one_of (n + 1) cards i card there (ap own (let e : n + 1 + i ≡ n + suc i = omega arith in e) ∙ is))
      ∙ true_or (own n && bytes_eq first.name card.name)

pub name_of : (s : ScenarioData) (l : ℕ) → IsScenario s → (i : ℕ) (card : CardData) → slice_get s.cards i ≡ Some card
    → is_name_of s l card.name ≡ is_card_of s l i
unfolding is_name_of
name_of s l fits i card there = by (is_card_of s l i) refl
  where
    none_so : is_card_of s l i ≡ false → (j : ℕ) (other : CardData) → slice_get s.cards j ≡ Some other
        → (is_card_of s l (0 + j) && bytes_eq other.name card.name) ≡ false
    none_so isnt j other is_there = elim (cases_eq j i) [
      | inl this ↦
          ap (λ m. is_card_of s l m && bytes_eq other.name card.name) (let e : 0 + j ≡ i = omega (arith, this) in e)
          ∙ ap (λ b. b && bytes_eq other.name card.name) isnt
      | inr differs ↦
          ap (λ b. is_card_of s l (0 + j) && b) (names_differ s.cards fits.tables.cards.names j i other card is_there there differs)
          ∙ none_and (is_card_of s l (0 + j))
    ]
      where
        none_and : (b : Bool) → (b && false) ≡ false
        none_and true = refl
        none_and false = refl

    by : (b : Bool) → is_card_of s l i ≡ b → names_one (is_card_of s l) 0 s.cards card.name ≡ is_card_of s l i
    by true is =
        one_of (is_card_of s l) 0 s.cards i card there (ap (is_card_of s l) (let e : 0 + i ≡ i = omega arith in e) ∙ is) ∙ sym is
    by false isnt = none_of (is_card_of s l) 0 s.cards card.name (none_so isnt) ∙ sym isnt
