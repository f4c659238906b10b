-- Limits put on one application after the other, and what becomes of an opening state.
use Rattle.std.proofs.Common.{◌≡◌, ℕ, zero, suc, ◌+◌, ◌-◌, ◌<◌, ◌≤◌, min, false, ◌||◌, List, [], ◌∷◌, ◌++◌, length, map, take, drop, get_or, refl, sym, ◌∙◌, ap, arith, append-nil, append_assoc}
use Rattle.std.proofs.Math.Seq.{drop-cons}
use Rattle.card_state.specs.declared.state.AppState.{AppState}
use Rattle.card_state.specs.declared.state.CardState.{CardState}
use Rattle.card_state.specs.declared.state.LogRow.{LogRow}
use Rattle.card_state.specs.Decisions.{rows_from}
use Rattle.card_state.specs.Layout.{as_one}
use Rattle.card_state.specs.Totals.{app_totals, apps_totals, own_decisions, after_last, last_or, totals}
use Rattle.card_state.specs.Upgrade.{card_as_one, with_limit, limits_applied, with_limits}

limits_applied-cons : (o s t : AppState) (os ss : List AppState) → t ≡ with_limit o s → limits_applied (o ∷ os) (s ∷ ss) ≡ t ∷ limits_applied os ss
unfolding limits_applied
limits_applied-cons o s t os ss is = ap (λ (x : AppState). x ∷ limits_applied os ss) (sym is)

-- one application more
pub one_more : (all front os ss : List AppState) (i : ℕ) (o s t : AppState) → i < length os → i < length ss
    → o ≡ get_or os i o → s ≡ get_or ss i s → t ≡ with_limit o s
    → all ≡ front ++ limits_applied (drop i os) (drop i ss) → all ≡ (front ++ t ∷ []) ++ limits_applied (drop (i + 1) os) (drop (i + 1) ss)
one_more all front os ss i o s t in_os in_ss is_o is_s is so_far =
    let next : suc i ≡ i + 1 = omega arith in
    let first : drop i os ≡ o ∷ drop (i + 1) os =
    drop-cons os i o in_os ∙ ap (λ (x : AppState). x ∷ drop (suc i) os) (sym is_o) ∙ ap (λ (k : ℕ). o ∷ drop k os) next in
    let second : drop i ss ≡ s ∷ drop (i + 1) ss =
    drop-cons ss i s in_ss ∙ ap (λ (x : AppState). x ∷ drop (suc i) ss) (sym is_s) ∙ ap (λ (k : ℕ). s ∷ drop k ss) next in
    so_far
    ∙ ap (λ (xs : List AppState). front ++ limits_applied xs (drop i ss)) first
    ∙ ap (λ (xs : List AppState). front ++ limits_applied (o ∷ drop (i + 1) os) xs) second
    ∙ ap (λ (xs : List AppState). front ++ xs) (limits_applied-cons o s t (drop (i + 1) os) (drop (i + 1) ss) is)
    ∙ sym (append_assoc front (t ∷ []) (limits_applied (drop (i + 1) os) (drop (i + 1) ss)))

limits_applied-none : (os : List AppState) → limits_applied os [] ≡ []
unfolding limits_applied
limits_applied-none [] = refl
limits_applied-none (o ∷ os) = refl

past_end : (os ss : List AppState) (i : ℕ) → min (length os) (length ss) ≤ i → limits_applied (drop i os) (drop i ss) ≡ []
unfolding limits_applied
past_end [] ss zero past = refl
past_end [] ss (suc i) past = refl
past_end (o ∷ os) [] zero past = refl
past_end (o ∷ os) [] (suc i) past = limits_applied-none (drop i os)
past_end (o ∷ os) (s ∷ ss) zero past = absurd (omega arith)
past_end (o ∷ os) (s ∷ ss) (suc i) past = past_end os ss i (omega arith)

-- all of them
pub all_limited : (all front os ss : List AppState) (i : ℕ) → min (length os) (length ss) ≤ i
    → all ≡ front ++ limits_applied (drop i os) (drop i ss) → front ≡ all
all_limited all front os ss i past so_far =
    sym (so_far ∙ ap (λ (xs : List AppState). front ++ xs) (past_end os ss i past) ∙ append-nil front)

-- an opening state in version 1, with its limits again, is its totals before the first decision
nothing_logged : (most : ℕ) (rows : List LogRow) → rows ≡ [] → [] ≡ take most rows
nothing_logged zero rows none = refl
nothing_logged (suc most) rows none = sym (ap (λ (xs : List LogRow). take (suc most) xs) none)

same_app : (o : AppState) → with_limit o (as_one (app_totals o [])) ≡ app_totals o []
unfolding app_totals after_last last_or rows_from
same_app o = λ i. record {
  counter = o.counter + 0;
  last_online = o.last_online;
  count = 0;
  sum = 0;
  count_limit = o.count_limit;
  sum_limit = o.sum_limit;
  tries = o.tries - 0;
  blocked = o.blocked;
  auth_failed = false;
  pin = o.pin;
  sum_two = 0;
  limit_two = o.limit_two;
  log_max = o.log_max;
  log = record { items = nothing_logged o.log_max [] refl i };
}

same_apps : (n : ℕ) (os : List AppState) → limits_applied os (map as_one (apps_totals n os [])) ≡ apps_totals n os []
unfolding limits_applied apps_totals own_decisions
same_apps n [] = refl
same_apps n (o ∷ os) =
    ap (λ (s : AppState). s ∷ limits_applied os (map as_one (apps_totals (n + 1) os []))) (same_app o)
    ∙ ap (λ (ss : List AppState). app_totals o [] ∷ ss) (same_apps (n + 1) os)

of_totals : (opening : CardState) → with_limits opening (card_as_one (totals opening [])) ≡ totals opening []
unfolding totals with_limits
of_totals opening = λ i. record {
  blocked = opening.blocked || false;
  apps = record { items = same_apps 0 opening.apps.items i };
}

-- so the conversion gives of a state of version 1 that was the opening one the totals of no decisions
pub upgraded-opening : (opening : CardState) → totals opening [] ≡ opening → with_limits opening (card_as_one opening) ≡ totals opening []
upgraded-opening opening is =
    ap (λ (s : CardState). with_limits opening (card_as_one s)) (sym is) ∙ of_totals opening
