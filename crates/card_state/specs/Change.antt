-- What one decision changes, and the state in which it may be taken.
use Rattle.std.specs.Prelude.{ℕ, ◌+◌, ◌-◌, ◌<◌, ◌≤◌, if◌then◌else◌, unwrap_or, ⊤, List, ◌∷◌, take, Option, Some, None}
use Rattle.emv_dict.specs.declared.ending.Kind.TheVariants.{Aac, Tc, Arqc}
use Rattle.card_state.specs.declared.decision.Which.{Which}
use Rattle.card_state.specs.declared.decision.Which.TheVariants.{One, Two, Neither}
use Rattle.card_state.specs.declared.decision.Sale.{Sale}
use Rattle.card_state.specs.declared.decision.How.TheVariants.{Authenticated as ByIssuer, Held, Alone, Offline}
use Rattle.card_state.specs.declared.decision.Decision.{Decision}
use Rattle.card_state.specs.declared.decision.Decision.TheVariants.{Started, PinTry, PinRight, First, Authenticated, Script, Second}
use Rattle.card_state.specs.declared.state.AppState.{AppState}
use Rattle.card_state.specs.declared.state.LogRow.{LogRow}
use Rattle.card_state.specs.Decisions.{is_start, is_try, is_reset, is_online, is_offline_approval, offline_sale, is_one, is_two, amount_in, row_given, tries_given, blocked_given, pin_given, count_limit_given, sum_limit_given, failure_given}

-- a sum with one amount more, where there is one
abbrev pub sum_with : ℕ → Option ℕ → ℕ
sum_with sum None = sum
sum_with sum (Some amount) = sum + amount

-- a log of at most so many rows, with one more in front, where there is one
abbrev pub logged : ℕ → List LogRow → Option LogRow → List LogRow
logged most rows None = rows
logged most rows (Some row) = take most (row ∷ rows)

-- an application's state after one more decision
abbrev pub changed : AppState → Decision → AppState
changed s d = record {
  counter = (if is_start d then s.counter + 1 else s.counter);
  last_online = (if is_online d then s.counter else s.last_online);
  count = (if is_reset d then 0 else (if is_offline_approval d then s.count + 1 else s.count));
  sum = (if is_reset d then 0 else sum_with s.sum (amount_in is_one (offline_sale d)));
  count_limit = unwrap_or (count_limit_given d) s.count_limit;
  sum_limit = unwrap_or (sum_limit_given d) s.sum_limit;
  tries = unwrap_or (tries_given d) (if is_try d then s.tries - 1 else s.tries);
  blocked = unwrap_or (blocked_given d) s.blocked;
  auth_failed = unwrap_or (failure_given d) s.auth_failed;
  pin = unwrap_or (pin_given d) s.pin;
  sum_two = (if is_reset d then 0 else sum_with s.sum_two (amount_in is_two (offline_sale d)));
  limit_two = s.limit_two;
  log_max = s.log_max;
  log = record { items = logged s.log_max s.log.items (row_given s.counter d) };
}

-- one more amount in this currency keeps its sum within the currency's limit
abbrev pub IsWithinLimit : AppState → Which → ℕ → Type 0
IsWithinLimit s One amount = s.sum + amount ≤ s.sum_limit
IsWithinLimit s Two amount = s.sum_two + amount ≤ s.limit_two
IsWithinLimit s Neither amount = ⊥

-- one more offline approval of this sale is within the limits, and in one of the application's currencies
abbrev pub WithinLimits : AppState → Sale → Type 0
WithinLimits s sale = (s.count + 1 ≤ s.count_limit) × IsWithinLimit s sale.which sale.amount

-- the state allows the decision: a start finds a counter below FFFF, a PIN try finds tries left, and an
-- offline approval is within the limits
abbrev pub MayDecide : AppState → Decision → Type 0
MayDecide s Started = s.counter < 65535
MayDecide s PinTry = 0 < s.tries
MayDecide s (PinRight limit) = ⊤
MayDecide s (First Tc sale) = WithinLimits s sale
MayDecide s (First Aac sale) = ⊤
MayDecide s (First Arqc sale) = ⊤
MayDecide s (Authenticated right steered) = ⊤
MayDecide s (Script command) = ⊤
MayDecide s (Second Tc Offline sale) = WithinLimits s sale
MayDecide s (Second Tc ByIssuer sale) = ⊤
MayDecide s (Second Tc Held sale) = ⊤
MayDecide s (Second Tc Alone sale) = ⊤
MayDecide s (Second Aac how sale) = ⊤
MayDecide s (Second Arqc how sale) = ⊤
