-- The totals of no decisions are the opening state.
use Rattle.std.proofs.Common.{◌≡◌, ℕ, zero, suc, ◌+◌, ◌-◌, ◌||◌, Bool, true, false, List, [], ◌∷◌, take, All, refl, sym, ◌∙◌, ap, arith}
use Rattle.card_state.specs.declared.state.AppState.{AppState}
use Rattle.card_state.specs.declared.state.CardState.{CardState}
use Rattle.card_state.specs.declared.state.LogRow.{LogRow}
use Rattle.card_state.specs.Decisions.{rows_from}
use Rattle.card_state.specs.Totals.{app_totals, apps_totals, own_decisions, after_last, last_or, totals, IsUnused}

plus_none : (n : ℕ) → n + 0 ≡ n
plus_none n = omega arith

less_none : (n : ℕ) → n - 0 ≡ n
less_none n = omega arith

none_taken : (most : ℕ) (rows : List LogRow) → rows ≡ [] → take most [] ≡ rows
none_taken zero rows none = sym none
none_taken (suc most) rows none = sym none

same_app : (o : AppState) → IsUnused o → app_totals o [] ≡ o
unfolding app_totals after_last last_or rows_from
same_app o is = λ i. record {
  counter = plus_none o.counter i;
  last_online = o.last_online;
  count = sym is.count i;
  sum = sym is.sum i;
  count_limit = o.count_limit;
  sum_limit = o.sum_limit;
  tries = less_none o.tries i;
  blocked = o.blocked;
  auth_failed = sym is.auth_failed i;
  pin = o.pin;
  sum_two = sym is.sum_two i;
  limit_two = o.limit_two;
  log_max = o.log_max;
  log = record { items = none_taken o.log_max o.log.items is.log i };
}

same_apps : (n : ℕ) (os : List AppState) → All IsUnused os → apps_totals n os [] ≡ os
unfolding apps_totals own_decisions
same_apps n [] are = refl
same_apps n (o ∷ os) are =
    ap (λ (s : AppState). s ∷ apps_totals (n + 1) os []) (same_app o (are 0 o (omega arith)))
    ∙ ap (λ (ss : List AppState). o ∷ ss) (same_apps (n + 1) os (λ k d within. are (suc k) d (omega arith)))

or_false : (b : Bool) → (b || false) ≡ b
or_false true = refl
or_false false = refl

pub totals-none : (opening : CardState) → All IsUnused opening.apps.items → totals opening [] ≡ opening
unfolding totals
totals-none opening are = λ i. record {
  blocked = or_false opening.blocked i;
  apps = record { items = same_apps 0 opening.apps.items are i };
}
