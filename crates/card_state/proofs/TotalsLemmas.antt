-- One more decision changes the totals as the table of changes says, field by field.
use Rattle.std.proofs.Common.{◌≡◌, ℕ, zero, suc, ◌+◌, ◌-◌, Bool, true, false, ◌||◌, cond, if◌then◌else◌, List, [], ◌∷◌, ◌++◌, take, reverse, Option, Some, None, is_some, unwrap_or, refl, sym, ◌∙◌, ap, append-nil, arith}
use Rattle.std.specs.List.{list_any, sum_by, count_by, cons_option}
use Rattle.std.proofs.lemmas.List.{take-take, reverse-append}
use Rattle.std.proofs.lemmas.List.Sums.{sum_by-cons}
use Rattle.card_state.specs.declared.decision.Which.{Which}
use Rattle.card_state.specs.declared.decision.Decision.{Decision}
use Rattle.card_state.specs.declared.decision.Decision.TheVariants.{Started}
use Rattle.card_state.specs.declared.state.AppState.{AppState}
use Rattle.card_state.specs.declared.state.LogRow.{LogRow}
use Rattle.card_state.specs.Decisions.{is_start, is_try, is_reset, is_online, offline_sale, is_offline_approval, is_one, is_two, amount_in, row_given, rows_from, tries_given, blocked_given, pin_given, count_limit_given, sum_limit_given, failure_given}
use Rattle.card_state.specs.Totals.{app_totals, last_given, after_last, up_to_last, gives_tries, approved_in}
use Rattle.card_state.specs.Change.{changed, sum_with, logged}
use Rattle.card_state.proofs.Pushes.{last_given-push, any-push, after_last-push, up_to_last-push, sum_by-push}

-- a count with one element more
counted : (p : Decision → Bool) (ds : List Decision) (d : Decision) → count_by p (ds ++ d ∷ []) ≡ (if p d then count_by p ds + 1 else count_by p ds)
counted p ds d = sum_by-push (λ x. cond (p x) 1 0) ds d ∙ go (p d) (count_by p ds)
  where
    go : (b : Bool) (n : ℕ) → n + cond b 1 0 ≡ (if b then n + 1 else n)
    go true n = refl
    go false n = omega arith

counter-push : (opening : ℕ) (ds : List Decision) (d : Decision)
    → opening + count_by is_start (ds ++ d ∷ []) ≡ (if is_start d then (opening + count_by is_start ds) + 1 else opening + count_by is_start ds)
counter-push opening ds d = ap (λ n. opening + n) (counted is_start ds d) ∙ go (is_start d) (count_by is_start ds)
  where
    go : (b : Bool) (n : ℕ) → opening + (if b then n + 1 else n) ≡ (if b then (opening + n) + 1 else opening + n)
    go true n = omega arith
    go false n = refl

online_not_start : (d : Decision) → is_online d ≡ true → is_start d ≡ false
online_not_start Started online = cc
online_not_start d online = refl

last_online-push : (counter online : ℕ) (ds : List Decision) (d : Decision)
    → (if list_any is_online (ds ++ d ∷ []) then counter + count_by is_start (up_to_last is_online (ds ++ d ∷ [])) else online)
    ≡ (if is_online d then counter + count_by is_start ds
    else (if list_any is_online ds then counter + count_by is_start (up_to_last is_online ds) else online))
last_online-push counter online ds d =
    ap (λ b. if b then counter + count_by is_start (up_to_last is_online (ds ++ d ∷ [])) else online) (any-push is_online ds d)
    ∙ ap (λ (xs : List Decision). if list_any is_online ds || is_online d then counter + count_by is_start xs else online) (up_to_last-push is_online ds d)
    ∙ go (is_online d) (list_any is_online ds) (online_not_start d)
  where
    uncounted : is_start d ≡ false → counter + count_by is_start (ds ++ d ∷ []) ≡ counter + count_by is_start ds
    uncounted none = ap (λ n. counter + n) (counted is_start ds d ∙ ap (λ b. if b then count_by is_start ds + 1 else count_by is_start ds) none)

    go : (b before : Bool) → (b ≡ true → is_start d ≡ false)
        → (if before || b then counter + count_by is_start (if b then ds ++ d ∷ [] else up_to_last is_online ds) else online)
        ≡ (if b then counter + count_by is_start ds else (if before then counter + count_by is_start (up_to_last is_online ds) else online))
    go true true no_start = uncounted (no_start refl)
    go true false no_start = uncounted (no_start refl)
    go false true no_start = refl
    go false false no_start = refl

count-push : (p : Decision → Bool) (ds : List Decision) (d : Decision)
    → count_by p (after_last is_reset (ds ++ d ∷ []))
    ≡ (if is_reset d then 0 else (if p d then count_by p (after_last is_reset ds) + 1 else count_by p (after_last is_reset ds)))
count-push p ds d = ap (λ (xs : List Decision). count_by p xs) (after_last-push is_reset ds d) ∙ go (is_reset d)
  where
    go : (b : Bool) → count_by p (if b then [] else after_last is_reset ds ++ d ∷ [])
        ≡ (if b then 0 else (if p d then count_by p (after_last is_reset ds) + 1 else count_by p (after_last is_reset ds)))
    go true = refl
    go false = counted p (after_last is_reset ds) d

summed : (own : Which → Bool) (ds : List Decision) (d : Decision)
    → sum_by (approved_in own) (ds ++ d ∷ []) ≡ sum_with (sum_by (approved_in own) ds) (amount_in own (offline_sale d))
summed own ds d = sum_by-push (approved_in own) ds d ∙ go (amount_in own (offline_sale d)) (sum_by (approved_in own) ds)
  where
    go : (o : Option ℕ) (n : ℕ) → n + unwrap_or o 0 ≡ sum_with n o
    go (Some amount) n = refl
    go None n = omega arith

sum-push : (own : Which → Bool) (ds : List Decision) (d : Decision)
    → sum_by (approved_in own) (after_last is_reset (ds ++ d ∷ []))
    ≡ (if is_reset d then 0 else sum_with (sum_by (approved_in own) (after_last is_reset ds)) (amount_in own (offline_sale d)))
sum-push own ds d = ap (λ (xs : List Decision). sum_by (approved_in own) xs) (after_last-push is_reset ds d) ∙ go (is_reset d)
  where
    go : (b : Bool) → sum_by (approved_in own) (if b then [] else after_last is_reset ds ++ d ∷ [])
        ≡ (if b then 0 else sum_with (sum_by (approved_in own) (after_last is_reset ds)) (amount_in own (offline_sale d)))
    go true = refl
    go false = summed own (after_last is_reset ds) d

cons_append : (o : Option LogRow) (rows more : List LogRow) → cons_option o (rows ++ more) ≡ cons_option o rows ++ more
cons_append None rows more = refl
cons_append (Some row) rows more = refl

plus_none : (n : ℕ) → n + 0 ≡ n
plus_none n = omega arith

-- the counter behind one decision and some more
starts : (counter : ℕ) (x : Decision) (xs : List Decision)
    → (if is_start x then counter + 1 else counter) + count_by is_start xs ≡ counter + count_by is_start (x ∷ xs)
starts counter x xs =
    go (is_start x) (count_by is_start xs) ∙ ap (λ (n : ℕ). counter + n) (sym (sum_by-cons (λ (y : Decision). cond (is_start y) 1 0) x xs))
  where
    go : (b : Bool) (n : ℕ) → (if b then counter + 1 else counter) + n ≡ counter + (cond b 1 0 + n)
    go true n = omega arith
    go false n = omega arith

-- the last decision gives its row behind those of the others
rows-push : (counter : ℕ) (ds : List Decision) (d : Decision)
    → rows_from counter (ds ++ d ∷ []) ≡ rows_from counter ds ++ cons_option (row_given (counter + count_by is_start ds) d) []
unfolding rows_from
rows-push counter [] d = ap (λ (n : ℕ). cons_option (row_given n d) []) (sym (plus_none counter))
rows-push counter (x ∷ xs) d =
    let next : ℕ = (if is_start x then counter + 1 else counter) in
    ap (λ (rows : List LogRow). cons_option (row_given counter x) rows) (rows-push next xs d)
    ∙ cons_append (row_given counter x) (rows_from next xs) (cons_option (row_given (next + count_by is_start xs) d) [])
    ∙ ap (λ (n : ℕ). cons_option (row_given counter x) (rows_from next xs) ++ cons_option (row_given n d) []) (starts counter x xs)

-- of a row in front of others it doesn't matter whether the others are cut already
taken : (most : ℕ) (row : LogRow) (rows : List LogRow) → take most (row ∷ rows) ≡ take most (row ∷ take most rows)
taken zero row rows = refl
taken (suc most) row rows = ap (λ (xs : List LogRow). row ∷ xs) (sym (take-take most (suc most) rows (omega arith)))

log-push : (most counter : ℕ) (ds : List Decision) (d : Decision)
    → take most (reverse (rows_from counter (ds ++ d ∷ [])))
    ≡ logged most (take most (reverse (rows_from counter ds))) (row_given (counter + count_by is_start ds) d)
log-push most counter ds d =
    ap (λ (rows : List LogRow). take most (reverse rows)) (rows-push counter ds d)
    ∙ go (row_given (counter + count_by is_start ds) d) (rows_from counter ds)
  where
    go : (o : Option LogRow) (rows : List LogRow) → take most (reverse (rows ++ cons_option o [])) ≡ logged most (take most (reverse rows)) o
    go None rows = ap (λ (xs : List LogRow). take most (reverse xs)) (append-nil rows)
    go (Some row) rows = ap (λ (xs : List LogRow). take most xs) (reverse-append rows (row ∷ [])) ∙ taken most row (reverse rows)

tries-push : (opening : ℕ) (ds : List Decision) (d : Decision)
    → last_given tries_given opening (ds ++ d ∷ []) - count_by is_try (after_last gives_tries (ds ++ d ∷ []))
    ≡ unwrap_or (tries_given d)
    (if is_try d then last_given tries_given opening ds - count_by is_try (after_last gives_tries ds) - 1
    else last_given tries_given opening ds - count_by is_try (after_last gives_tries ds))
tries-push opening ds d =
    ap (λ (n : ℕ). n - count_by is_try (after_last gives_tries (ds ++ d ∷ []))) (last_given-push tries_given opening ds d)
    ∙ ap (λ (xs : List Decision). unwrap_or (tries_given d) (last_given tries_given opening ds) - count_by is_try xs) (after_last-push gives_tries ds d)
    ∙ go (tries_given d) (last_given tries_given opening ds)
  where
    less : (b : Bool) (given tried : ℕ) → given - (if b then tried + 1 else tried) ≡ (if b then given - tried - 1 else given - tried)
    less true given tried = omega arith
    less false given tried = refl

    go : (o : Option ℕ) (given : ℕ)
        → unwrap_or o given - count_by is_try (if is_some o then [] else after_last gives_tries ds ++ d ∷ [])
        ≡ unwrap_or o (if is_try d then given - count_by is_try (after_last gives_tries ds) - 1 else given - count_by is_try (after_last gives_tries ds))
    go (Some limit) given = omega arith
    go None given =
        ap (λ (n : ℕ). given - n) (counted is_try (after_last gives_tries ds) d) ∙ less (is_try d) given (count_by is_try (after_last gives_tries ds))

-- the totals of a list with one decision more
pub totals-push : (opening : AppState) (ds : List Decision) (d : Decision) → app_totals opening (ds ++ d ∷ []) ≡ changed (app_totals opening ds) d
unfolding app_totals
totals-push opening ds d = λ i. record {
  counter = counter-push opening.counter ds d i;
  last_online = last_online-push opening.counter opening.last_online ds d i;
  count = count-push is_offline_approval ds d i;
  sum = sum-push is_one ds d i;
  count_limit = last_given-push count_limit_given opening.count_limit ds d i;
  sum_limit = last_given-push sum_limit_given opening.sum_limit ds d i;
  tries = tries-push opening.tries ds d i;
  blocked = last_given-push blocked_given opening.blocked ds d i;
  auth_failed = last_given-push failure_given false ds d i;
  pin = last_given-push pin_given opening.pin ds d i;
  sum_two = sum-push is_two ds d i;
  limit_two = opening.limit_two;
  log_max = opening.log_max;
  log = record { items = log-push opening.log_max opening.counter ds d i };
}
