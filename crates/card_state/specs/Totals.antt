-- A card's totals by its history: they count over the whole list of its decisions.
use Rattle.std.specs.Prelude.{◌≡◌, ℕ, ◌+◌, ◌-◌, ◌==◌, Bool, false, ◌||◌, if◌then◌else◌, List, [], ◌∷◌, map, filter, filter_map, reverse, take, count_by, sum_by, Option, is_some, unwrap_or}
use Rattle.std.specs.List.{list_any}
use Rattle.card_state.specs.declared.decision.Decision.{Decision}
use Rattle.card_state.specs.declared.decision.Which.{Which}
use Rattle.card_state.specs.declared.state.AppState.{AppState}
use Rattle.card_state.specs.declared.state.CardState.{CardState}
use Rattle.card_state.specs.Decisions.{Decided, is_start, is_try, is_reset, is_online, offline_sale, is_offline_approval, is_one, is_two, amount_in, rows_from, tries_given, blocked_given, pin_given, count_limit_given, sum_limit_given, failure_given, blocks_card}

-- the elements behind the last that passes: all where none does
unfoldable pub after_last : {A : Type 0} → (A → Bool) → List A → List A
after_last p [] = []
after_last p (x ∷ xs) = (if list_any p (x ∷ xs) then after_last p xs else x ∷ xs)

-- the elements up to the last that passes, with it: none where none does
unfoldable pub up_to_last : {A : Type 0} → (A → Bool) → List A → List A
up_to_last p [] = []
up_to_last p (x ∷ xs) = (if list_any p (x ∷ xs) then x ∷ up_to_last p xs else [])

-- the last of these values, else another
unfoldable pub last_or : {A : Type 0} → A → List A → A
last_or other [] = other
last_or other (x ∷ xs) = last_or x xs

-- the last value that the list gives, else the opening one
abbrev pub last_given : {A B : Type 0} → (A → Option B) → B → List A → B
last_given given opening xs = last_or opening (filter_map given xs)

-- whether a decision restores the tries
abbrev pub gives_tries : Decision → Bool
gives_tries d = is_some (tries_given d)

-- the amount of an offline approval in this currency, else nothing
abbrev pub approved_in : (Which → Bool) → Decision → ℕ
approved_in own d = unwrap_or (amount_in own (offline_sale d)) 0

-- the state of an application after its decisions
unfoldable pub app_totals : AppState → List Decision → AppState
app_totals opening ds = record {
  counter = opening.counter + count_by is_start ds;
  last_online = (if list_any is_online ds then opening.counter + count_by is_start (up_to_last is_online ds) else opening.last_online);
  count = count_by is_offline_approval (after_last is_reset ds);
  sum = sum_by (approved_in is_one) (after_last is_reset ds);
  count_limit = last_given count_limit_given opening.count_limit ds;
  sum_limit = last_given sum_limit_given opening.sum_limit ds;
  tries = last_given tries_given opening.tries ds - count_by is_try (after_last gives_tries ds);
  blocked = last_given blocked_given opening.blocked ds;
  auth_failed = last_given failure_given false ds;
  pin = last_given pin_given opening.pin ds;
  sum_two = sum_by (approved_in is_two) (after_last is_reset ds);
  limit_two = opening.limit_two;
  log_max = opening.log_max;
  log = record { items = take opening.log_max (reverse (rows_from opening.counter ds)) };
}

-- an application's own decisions among those of its card
unfoldable pub own_decisions : ℕ → List Decided → List Decision
own_decisions app ds = map (λ d. d.decision) (filter (λ d. d.app == app) ds)

-- the states of the applications from this number on
unfoldable pub apps_totals : ℕ → List AppState → List Decided → List AppState
apps_totals app [] ds = []
apps_totals app (opening ∷ openings) ds = app_totals opening (own_decisions app ds) ∷ apps_totals (app + 1) openings ds

-- the state of a card after its decisions: each application counts its own, and the card is blocked where
-- it was from the opening on or where any decision blocks it
unfoldable pub totals : CardState → List Decided → CardState
totals opening ds = record {
  blocked = opening.blocked || list_any (λ d. blocks_card d.decision) ds;
  apps = record { items = apps_totals 0 opening.apps.items ds };
}

-- an application's state in which nothing is counted or logged yet and no issuer authentication has failed
pub record IsUnused (s : AppState) : Type 0 where
  pub count : s.count ≡ 0
  pub sum : s.sum ≡ 0
  pub auth_failed : s.auth_failed ≡ false
  pub sum_two : s.sum_two ≡ 0
  pub log : s.log.items ≡ []
