-- The lanes of a generated scenario keep to their rules, and have all its purchases.
use Rattle.std.proofs.Common.{◌≡◌, ◌≢◌, ◌<◌, ◌+◌, ◌%◌, ℕ, suc, zero, List, [], ◌∷◌, ◌++◌, length, map, cond, Bool, true, false, refl, sym, arith, ap, ◌∙◌, append-nil, zero-add}
use Rattle.std.specs.Prelude.{◌==◌, codes, IfSome, IsTrue}
use Rattle.std.specs.List.{All, count_by, filter, range_with_len}
use Rattle.std.proofs.Math.Nat.{mod-lt}
use Rattle.std.proofs.lemmas.Bool.{eq-eqb, ne_eqb}
use Rattle.std.proofs.lemmas.List.{length-map, map-append, map-id}
use Rattle.std.proofs.lemmas.List.Elements.{All-append, All-cons, All-map, All-nil, filter-append}
use Rattle.std.proofs.lemmas.List.FromFn.{length-range_with_len, map-range_with_len_more}
use Rattle.std.proofs.lemmas.List.Sums.{AllPass-from_list_all, length-filter, sum_by-cons}
use Rattle.emv_dict.specs.Settings.{IsSettings, IsAidRow, is_letter_or_digit}
use Rattle.scenario_lanes.specs.Plan.{IsLane, IsPlanned, HasCards}
use Rattle.scenario_lanes.specs.declared.plan.Planned.{Planned}
use Rattle.generated.proofs.Numbered.{digit_character}
use Rattle.generated.proofs.Purchases.{planned_rules, no_choice, known_card}
use Rattle.generated.specs.Lanes.{aid_row, generated_settings, stands_on, purchases_of, generated_lane}
use Rattle.generated.specs.Numbers.{generated_number}
use Rattle.generated.specs.Purchases.{planned_at, planned_by, LeavesNoChoice}

aid_rules : IsAidRow aid_row
unfolding aid_row
aid_rules = record { identifier = omega arith; floor_fits = omega arith; threshold_below = omega arith; target_below = omega arith; percentage = omega arith }

digit_plain : (digit : ℕ) → digit < 10 → IsTrue (is_letter_or_digit (48 + digit))
digit_plain digit within = rw (digit_character digit within) refl

settings_rules : (lane : ℕ) → lane < 4 → IsSettings (generated_settings lane)
unfolding generated_settings
settings_rules lane within = record {
  least_kind = omega arith;
  most_kind = omega arith;
  country_code = refl;
  letters =
      let Plain : ℕ → Type 0 = λ c. IsTrue (is_letter_or_digit c) in
      All-append Plain (codes "TERM000") ((48 + lane) ∷ []) (AllPass-from_list_all is_letter_or_digit (codes "TERM000") refl)
      (All-cons Plain (48 + lane) [] (digit_plain lane (omega (arith, within))) (All-nil Plain));
  few_exceptions = omega arith;
  account_numbers = λ k d w. absurd (omega (arith, w));
  some_aid = omega arith;
  few_aids = omega arith;
  rows = All-cons IsAidRow aid_row [] aid_rules (All-nil IsAidRow);
}

-- what holds of a purchase, whatever its number, holds of each one of a lane
each_purchase : (P : Planned → Type 0) (count lane : ℕ) → ((k : ℕ) → P (planned_at count k)) → All P (purchases_of count lane)
unfolding purchases_of
each_purchase P count lane holds =
    All-map P (planned_at count) (filter (stands_on lane) (range_with_len 0 count))
    (λ k d within. holds _)

pub lane_rules : (count lane : ℕ) → lane < 4 → IsLane (generated_lane count lane)
unfolding generated_lane
lane_rules count lane within = record {
  settings = settings_rules lane within;
  purchases = each_purchase IsPlanned count lane (λ k. planned_rules k (generated_number count (k + 1)));
}

pub lane_cards : (count lane : ℕ) → HasCards 8 (generated_lane count lane)
unfolding generated_lane
lane_cards count lane = each_purchase (λ planned. planned.card < 8) count lane (λ k. known_card k (generated_number count (k + 1)))

pub lane_no_choice : (count lane : ℕ) → All (λ planned. IfSome planned.tear LeavesNoChoice) (generated_lane count lane).purchases
unfolding generated_lane
lane_no_choice count lane = each_purchase (λ planned. IfSome planned.tear LeavesNoChoice) count lane (λ k. no_choice k (generated_number count (k + 1)))

-- a purchase stands on one of the four lanes
one_lane : (turn : ℕ) → turn < 4 → cond (turn == 0) 1 0 + cond (turn == 1) 1 0 + cond (turn == 2) 1 0 + cond (turn == 3) 1 0 ≡ 1
one_lane zero within = refl
one_lane (suc zero) within = refl
one_lane (suc (suc zero)) within = refl
one_lane (suc (suc (suc zero))) within = refl
one_lane (suc (suc (suc (suc turn)))) within = absurd (omega (arith, within))

all_lanes : (ks : List ℕ) → count_by (stands_on 0) ks + count_by (stands_on 1) ks + count_by (stands_on 2) ks + count_by (stands_on 3) ks ≡ length ks
all_lanes [] = refl
all_lanes (k ∷ ks) =
    let first = sum_by-cons (λ x. cond (stands_on 0 x) 1 0) k ks in
    let second = sum_by-cons (λ x. cond (stands_on 1 x) 1 0) k ks in
    let third = sum_by-cons (λ x. cond (stands_on 2 x) 1 0) k ks in
    let fourth = sum_by-cons (λ x. cond (stands_on 3 x) 1 0) k ks in
    omega (arith, first, second, third, fourth, one_lane (k % 4) (mod-lt k (omega arith)), all_lanes ks)

on_lane : (count lane : ℕ) → length (purchases_of count lane) ≡ count_by (stands_on lane) (range_with_len 0 count)
unfolding purchases_of
on_lane count lane =
    length-map (filter (stands_on lane) (range_with_len 0 count)) (planned_at count) ∙ length-filter (stands_on lane) (range_with_len 0 count)

pub all_purchases : (count : ℕ) →
    length (purchases_of count 0) + length (purchases_of count 1) + length (purchases_of count 2) + length (purchases_of count 3) ≡ count
all_purchases count =
    omega (arith, on_lane count 0, on_lane count 1, on_lane count 2, on_lane count 3, all_lanes (range_with_len 0 count), length-range_with_len 0 count)

one_more : (k : ℕ) → range_with_len 0 (k + 1) ≡ range_with_len 0 k ++ k ∷ []
one_more k =
    sym (map-id (range_with_len 0 (k + 1))) ∙ map-range_with_len_more (λ n. n) 0 k k (zero-add k)
    ∙ ap (λ ks. ks ++ k ∷ []) (map-id (range_with_len 0 k))

one_or_none : (count k : ℕ) (there : Bool) → map (planned_at count) (cond there (k ∷ []) []) ≡ cond there (planned_at count k ∷ []) []
one_or_none count k true = refl
one_or_none count k false = refl

-- one purchase more of all lanes
purchases_more : (count lane k : ℕ) →
    map (planned_at count) (filter (stands_on lane) (range_with_len 0 (k + 1)))
    ≡ map (planned_at count) (filter (stands_on lane) (range_with_len 0 k)) ++ cond (stands_on lane k) (planned_at count k ∷ []) []
purchases_more count lane k =
    ap (λ ks. map (planned_at count) (filter (stands_on lane) ks)) (one_more k)
    ∙ ap (map (planned_at count)) (filter-append (stands_on lane) (range_with_len 0 k) (k ∷ []))
    ∙ map-append (planned_at count) (filter (stands_on lane) (range_with_len 0 k)) (filter (stands_on lane) (k ∷ []))
    ∙ ap (λ more. map (planned_at count) (filter (stands_on lane) (range_with_len 0 k)) ++ more) (one_or_none count k (stands_on lane k))

-- it stands on the lane
pub purchase_taken : (count lane k x : ℕ) (old new : List Planned) (planned : Planned) → k % 4 ≡ lane → new ≡ old ++ planned ∷ [] → planned ≡ planned_by k x
    → x ≡ generated_number count (k + 1) → old ≡ map (planned_at count) (filter (stands_on lane) (range_with_len 0 k))
    → new ≡ map (planned_at count) (filter (stands_on lane) (range_with_len 0 (k + 1)))
purchase_taken count lane k x old new planned on pushed is number made =
    let last : planned ≡ planned_at count k = is ∙ ap (planned_by k) number in
    rw (pushed, last, made, purchases_more, eq-eqb (k % 4) lane on) refl

-- it stands on another one
pub purchase_passed : (count lane k : ℕ) (old : List Planned) → k % 4 ≢ lane → old ≡ map (planned_at count) (filter (stands_on lane) (range_with_len 0 k))
    → old ≡ map (planned_at count) (filter (stands_on lane) (range_with_len 0 (k + 1)))
purchase_passed count lane k old off made = rw (made, purchases_more, ne_eqb (k % 4) lane off) (sym (append-nil _))
