-- The totals of allowed decisions whose numbers fit their fields fit theirs.
use Rattle.std.proofs.Common.{◌≡◌, ℕ, zero, suc, ◌+◌, ◌^◌, ◌<◌, ◌≤◌, ◌||◌, if◌then◌else◌, Bool, true, false, unwrap_or, Option, List, [], ◌∷◌, ◌++◌, All, length, set, take, slice_get, Some, None, refl, sym, ◌∙◌, ap, subst, arith, add-one, length-set}
use Rattle.std.proofs.lemmas.List.{take_all, take_more, length-take}
use Rattle.std.proofs.lemmas.List.Elements.{All-set, All-take, All-cons, All-nil}
use Rattle.std.proofs.lemmas.Option.{slice_get_within, get_or_from_slice_get}
use Rattle.emv_dict.specs.Kinds.{kind_byte}
use Rattle.emv_dict.specs.declared.ending.Kind.{Kind}
use Rattle.emv_dict.specs.declared.ending.Kind.TheVariants.{Aac, Tc, Arqc}
use Rattle.card_state.specs.declared.decision.Which.{Which}
use Rattle.card_state.specs.declared.decision.Which.TheVariants.{One, Two, Neither}
use Rattle.card_state.specs.declared.decision.Sale.{Sale}
use Rattle.card_state.specs.declared.decision.Steered.{Steered}
use Rattle.card_state.specs.declared.decision.How.TheVariants.{Authenticated as ByIssuer, Held, Alone, Offline}
use Rattle.card_state.specs.declared.decision.Scripted.TheVariants.{Block, Unblock, CardBlock, PinUnblock, PinChange, Count, Sum}
use Rattle.card_state.specs.declared.decision.Decision.{Decision}
use Rattle.card_state.specs.declared.decision.Decision.TheVariants.{Started, PinTry, PinRight, First, Authenticated, Script, Second}
use Rattle.card_state.specs.declared.state.AppState.{AppState}
use Rattle.card_state.specs.declared.state.CardState.{CardState}
use Rattle.card_state.specs.declared.state.LogRow.{LogRow}
use Rattle.card_state.specs.Allowed.{FindsAllowed, Allowed}
use Rattle.card_state.specs.Change.{changed, sum_with, IsWithinLimit, MayDecide}
use Rattle.card_state.specs.Decisions.{Decided, blocks_card, is_one, is_two, log_row, restores, rows_from, tries_steered}
use Rattle.card_state.specs.Encoding.{AreBytesOf, IsLogRow, IsAppState, IsCardState, HasShortLogs}
use Rattle.card_state.specs.Fits.{FitsFields, FitsSale, FitsSteered, AllFit}
use Rattle.card_state.specs.Totals.{app_totals, apps_totals, own_decisions, after_last, last_or, totals}
use Rattle.card_state.proofs.CardLemmas.{totals-longer}

some_at : {A : Type 0} (xs : List A) (i : ℕ) → i < length xs → (x : A) × (slice_get xs i ≡ Some x)
some_at [] i within = absurd (omega arith)
some_at (x ∷ xs) zero within = (x, refl)
some_at (x ∷ xs) (suc i) within = some_at xs i (omega arith)

-- what an application's state keeps to from an opening state on: its log is as short as its limit says
record IsKept (s : AppState) : Type 0 where
  counter : s.counter < 2 ^ 16
  last_online : s.last_online < 2 ^ 16
  count : s.count < 2 ^ 8
  sum : s.sum < 2 ^ 64
  count_limit : s.count_limit < 2 ^ 8
  sum_limit : s.sum_limit < 2 ^ 64
  tries : s.tries < 2 ^ 8
  pin : AreBytesOf 8 s.pin
  sum_two : s.sum_two < 2 ^ 64
  limit_two : s.limit_two < 2 ^ 64
  log_max : s.log_max ≤ 10
  few_rows : length s.log.items ≤ s.log_max
  rows : All IsLogRow s.log.items

encodable : (s : AppState) → IsKept s → IsAppState s
encodable s is =
    let most : s.log_max ≤ 10 = is.log_max in
    let few : length s.log.items ≤ s.log_max = is.few_rows in
    record {
      one = record {
        counter = is.counter;
        last_online = is.last_online;
        count = is.count;
        sum = is.sum;
        count_limit = is.count_limit;
        sum_limit = is.sum_limit;
        tries = is.tries;
        pin = is.pin;
      };
      more = record { sum_two = is.sum_two; limit_two = is.limit_two; log_max = omega arith; few_rows = omega arith };
      rows = is.rows;
    }

kind_fits : (kind : Kind) → kind_byte kind < 2 ^ 8
kind_fits Aac = omega arith
kind_fits Tc = omega arith
kind_fits Arqc = omega arith

row_fits : (counter : ℕ) (kind : Kind) (sale : Sale) → counter < 2 ^ 16 → FitsSale sale → IsLogRow (log_row counter kind sale)
row_fits counter kind sale small fits = record { raw = fits.raw; currency = fits.currency; date = fits.date; counter = small; kind = kind_fits kind }

at_most : (most : ℕ) (rows : List LogRow) → length (take most rows) ≤ most
at_most most rows = omega (arith, length-take most rows)

module _ (s : AppState) (is : IsKept s) (kind : Kind) (sale : Sale) (fits : FitsSale sale) where
  abbrev rows_behind : List LogRow
  rows_behind = take s.log_max (log_row s.counter kind sale ∷ s.log.items)

  rows_fit : All IsLogRow rows_behind
  rows_fit =
      All-take IsLogRow s.log_max (log_row s.counter kind sale ∷ s.log.items)
      (All-cons IsLogRow (log_row s.counter kind sale) s.log.items (row_fits s.counter kind sale is.counter fits) is.rows)

  rows_few : length rows_behind ≤ s.log_max
  rows_few = at_most s.log_max (log_row s.counter kind sale ∷ s.log.items)

sum_fits : (s : AppState) (which : Which) (amount : ℕ) → IsWithinLimit s which amount → s.sum < 2 ^ 64 → s.sum_limit < 2 ^ 64
    → sum_with s.sum (if is_one which then Some amount else None) < 2 ^ 64
sum_fits s One amount within sum limit = omega (arith, within)
sum_fits s Two amount within sum limit = sum
sum_fits s Neither amount within sum limit = sum

sum_two_fits : (s : AppState) (which : Which) (amount : ℕ) → IsWithinLimit s which amount → s.sum_two < 2 ^ 64 → s.limit_two < 2 ^ 64
    → sum_with s.sum_two (if is_two which then Some amount else None) < 2 ^ 64
sum_two_fits s One amount within sum limit = sum
sum_two_fits s Two amount within sum limit = omega (arith, within)
sum_two_fits s Neither amount within sum limit = sum

tries_fit : (tries : ℕ) (steered : Option Steered) → tries < 2 ^ 8 → FitsSteered steered → unwrap_or (tries_steered steered) tries < 2 ^ 8
tries_fit tries None small fits = small
tries_fit tries (Some s) small fits = by_test (restores s)
  where
    by_test : (b : Bool) → unwrap_or (if b then Some s.limit else None) tries < 2 ^ 8
    by_test true = fits
    by_test false = small

made : (s : AppState) → s.counter < 2 ^ 16 → s.last_online < 2 ^ 16 → s.count < 2 ^ 8 → s.sum < 2 ^ 64 → s.count_limit < 2 ^ 8 → s.sum_limit < 2 ^ 64
    → s.tries < 2 ^ 8 → AreBytesOf 8 s.pin → s.sum_two < 2 ^ 64 → s.limit_two < 2 ^ 64 → s.log_max ≤ 10 → length s.log.items ≤ s.log_max → All IsLogRow s.log.items
    → IsKept s
made s counter online count sum count_limit sum_limit tries pin sum_two limit_two log_max few rows = record {
  counter = counter;
  last_online = online;
  count = count;
  sum = sum;
  count_limit = count_limit;
  sum_limit = sum_limit;
  tries = tries;
  pin = pin;
  sum_two = sum_two;
  limit_two = limit_two;
  log_max = log_max;
  few_rows = few;
  rows = rows;
}

-- an application's state after one more decision
keeps : (s : AppState) (d : Decision) → IsKept s → MayDecide s d → FitsFields d → IsKept (changed s d)
keeps s Started is may fits = made (changed s Started) (omega (arith, may)) is.last_online is.count is.sum is.count_limit is.sum_limit is.tries is.pin is.sum_two is.limit_two is.log_max is.few_rows is.rows
keeps s PinTry is may fits = made (changed s PinTry) is.counter is.last_online is.count is.sum is.count_limit is.sum_limit (omega (arith, is.tries)) is.pin is.sum_two is.limit_two is.log_max is.few_rows is.rows
keeps s (PinRight limit) is may fits = made (changed s (PinRight limit)) is.counter is.last_online is.count is.sum is.count_limit is.sum_limit fits is.pin is.sum_two is.limit_two is.log_max is.few_rows is.rows
keeps s (First Arqc sale) is may fits = is
keeps s (First Aac sale) is may fits = made (changed s (First Aac sale)) is.counter is.last_online is.count is.sum is.count_limit is.sum_limit is.tries is.pin is.sum_two is.limit_two is.log_max (rows_few s is Aac sale fits) (rows_fit s is Aac sale fits)
keeps s (First Tc sale) is may fits = made (changed s (First Tc sale)) is.counter is.last_online (omega (arith, is.count_limit, may.0)) (sum_fits s sale.which sale.amount may.1 is.sum is.sum_limit) is.count_limit is.sum_limit is.tries is.pin (sum_two_fits s sale.which sale.amount may.1 is.sum_two is.limit_two) is.limit_two is.log_max (rows_few s is Tc sale fits) (rows_fit s is Tc sale fits)
keeps s (Authenticated right steered) is may fits = made (changed s (Authenticated right steered)) is.counter is.last_online is.count is.sum is.count_limit is.sum_limit (tries_fit s.tries steered is.tries fits) is.pin is.sum_two is.limit_two is.log_max is.few_rows is.rows
keeps s (Script Block) is may fits = made (changed s (Script Block)) is.counter is.last_online is.count is.sum is.count_limit is.sum_limit is.tries is.pin is.sum_two is.limit_two is.log_max is.few_rows is.rows
keeps s (Script Unblock) is may fits = made (changed s (Script Unblock)) is.counter is.last_online is.count is.sum is.count_limit is.sum_limit is.tries is.pin is.sum_two is.limit_two is.log_max is.few_rows is.rows
keeps s (Script CardBlock) is may fits = is
keeps s (Script (PinUnblock limit)) is may fits = made (changed s (Script (PinUnblock limit))) is.counter is.last_online is.count is.sum is.count_limit is.sum_limit fits is.pin is.sum_two is.limit_two is.log_max is.few_rows is.rows
keeps s (Script (PinChange pin limit)) is may fits = made (changed s (Script (PinChange pin limit))) is.counter is.last_online is.count is.sum is.count_limit is.sum_limit fits.0 fits.1 is.sum_two is.limit_two is.log_max is.few_rows is.rows
keeps s (Script (Count limit)) is may fits = made (changed s (Script (Count limit))) is.counter is.last_online is.count is.sum fits is.sum_limit is.tries is.pin is.sum_two is.limit_two is.log_max is.few_rows is.rows
keeps s (Script (Sum limit)) is may fits = made (changed s (Script (Sum limit))) is.counter is.last_online is.count is.sum is.count_limit fits is.tries is.pin is.sum_two is.limit_two is.log_max is.few_rows is.rows
keeps s (Second kind ByIssuer sale) is may fits = made (changed s (Second kind ByIssuer sale)) is.counter is.counter (omega arith) (omega arith) is.count_limit is.sum_limit is.tries is.pin (omega arith) is.limit_two is.log_max (rows_few s is kind sale fits) (rows_fit s is kind sale fits)
keeps s (Second Aac Held sale) is may fits = made (changed s (Second Aac Held sale)) is.counter is.counter is.count is.sum is.count_limit is.sum_limit is.tries is.pin is.sum_two is.limit_two is.log_max (rows_few s is Aac sale fits) (rows_fit s is Aac sale fits)
keeps s (Second Tc Held sale) is may fits = made (changed s (Second Tc Held sale)) is.counter is.counter is.count is.sum is.count_limit is.sum_limit is.tries is.pin is.sum_two is.limit_two is.log_max (rows_few s is Tc sale fits) (rows_fit s is Tc sale fits)
keeps s (Second Arqc Held sale) is may fits = made (changed s (Second Arqc Held sale)) is.counter is.counter is.count is.sum is.count_limit is.sum_limit is.tries is.pin is.sum_two is.limit_two is.log_max (rows_few s is Arqc sale fits) (rows_fit s is Arqc sale fits)
keeps s (Second Aac Alone sale) is may fits = made (changed s (Second Aac Alone sale)) is.counter is.last_online is.count is.sum is.count_limit is.sum_limit is.tries is.pin is.sum_two is.limit_two is.log_max (rows_few s is Aac sale fits) (rows_fit s is Aac sale fits)
keeps s (Second Tc Alone sale) is may fits = made (changed s (Second Tc Alone sale)) is.counter is.last_online is.count is.sum is.count_limit is.sum_limit is.tries is.pin is.sum_two is.limit_two is.log_max (rows_few s is Tc sale fits) (rows_fit s is Tc sale fits)
keeps s (Second Arqc Alone sale) is may fits = made (changed s (Second Arqc Alone sale)) is.counter is.last_online is.count is.sum is.count_limit is.sum_limit is.tries is.pin is.sum_two is.limit_two is.log_max (rows_few s is Arqc sale fits) (rows_fit s is Arqc sale fits)
keeps s (Second Aac Offline sale) is may fits = made (changed s (Second Aac Offline sale)) is.counter is.last_online is.count is.sum is.count_limit is.sum_limit is.tries is.pin is.sum_two is.limit_two is.log_max (rows_few s is Aac sale fits) (rows_fit s is Aac sale fits)
keeps s (Second Arqc Offline sale) is may fits = made (changed s (Second Arqc Offline sale)) is.counter is.last_online is.count is.sum is.count_limit is.sum_limit is.tries is.pin is.sum_two is.limit_two is.log_max (rows_few s is Arqc sale fits) (rows_fit s is Arqc sale fits)
keeps s (Second Tc Offline sale) is may fits = made (changed s (Second Tc Offline sale)) is.counter is.last_online (omega (arith, is.count_limit, may.0)) (sum_fits s sale.which sale.amount may.1 is.sum is.sum_limit) is.count_limit is.sum_limit is.tries is.pin (sum_two_fits s sale.which sale.amount may.1 is.sum_two is.limit_two) is.limit_two is.log_max (rows_few s is Tc sale fits) (rows_fit s is Tc sale fits)

-- with no decisions nothing is counted or logged, and the other numbers are those of the opening
opens : (o : AppState) → IsAppState o → o.log_max ≤ 10 → IsKept (app_totals o [])
unfolding app_totals after_last last_or rows_from
opens o is short =
    made (app_totals o []) (omega (arith, is.one.counter)) is.one.last_online (omega arith) (omega arith) is.one.count_limit is.one.sum_limit
    (omega (arith, is.one.tries)) is.one.pin (omega arith) is.more.limit_two short (at_most o.log_max []) (All-take IsLogRow o.log_max [] (All-nil IsLogRow))

all_open : (n : ℕ) (openings : List AppState) → All IsAppState openings → All (λ s. s.log_max ≤ 10) openings → All IsKept (apps_totals n openings [])
unfolding apps_totals own_decisions
all_open n [] are short k d within = absurd (omega arith)
all_open n (o ∷ os) are short zero d within = opens o (are 0 o (omega arith)) (short 0 o (omega arith))
all_open n (o ∷ os) are short (suc k) d within =
    all_open (n + 1) os (λ i e below. are (suc i) e (omega arith)) (λ i e below. short (suc i) e (omega arith)) k d (omega arith)

counted : (n : ℕ) (openings : List AppState) (ds : List Decided) → length (apps_totals n openings ds) ≡ length openings
unfolding apps_totals
counted n [] ds = refl
counted n (o ∷ os) ds = let rest : length (apps_totals (n + 1) os ds) ≡ length os = counted (n + 1) os ds in omega arith

-- so a card's
record IsKeptCard (state : CardState) : Type 0 where
  few : length state.apps.items ≤ 4
  apps : All IsKept state.apps.items

card_opens : (opening : CardState) → IsCardState opening → HasShortLogs opening → IsKeptCard (totals opening [])
unfolding totals
card_opens opening is short = record {
  few = let same : length (apps_totals 0 opening.apps.items []) ≡ length opening.apps.items = counted 0 opening.apps.items [] in omega (arith, is.few);
  apps = all_open 0 opening.apps.items is.apps short;
}

-- a card's state after one more decision, which it allows
card_keeps : (old : CardState) (d : Decided) → IsKeptCard old → FindsAllowed old d → FitsFields d.decision → (s : AppState) → slice_get old.apps.items d.app ≡ Some s
    → (opening : CardState) (ds : List Decided) → old ≡ totals opening ds → IsKeptCard (totals opening (ds ++ d ∷ []))
card_keeps old d is finds fits s there opening ds same =
    let own : IsKept s = subst (λ (t : AppState). IsKept t) (get_or_from_slice_get old.apps.items d.app s s there) (is.apps d.app s finds.in_range) in
    let after : AppState = changed s d.decision in
    let new : CardState = record { blocked = old.blocked || blocks_card d.decision; apps = record { items = set old.apps.items d.app after } } in
    let only : (t : AppState) → slice_get old.apps.items d.app ≡ Some t → set old.apps.items d.app after ≡ set old.apps.items d.app (changed t d.decision) =
    λ t found. (let one : s ≡ t = cc in ap (λ (u : AppState). set old.apps.items d.app (changed u d.decision)) one) in
    let is_new : IsKeptCard new = record {
      few = omega (arith, is.few, length-set old.apps.items d.app after);
      apps = All-set IsKept old.apps.items d.app after (keeps s d.decision own (finds.allowed s there) fits) is.apps;
    } in
    subst (λ (t : CardState). IsKeptCard t) (totals-longer opening ds d.app d.decision old new finds.in_range refl only same) is_new

-- one decision more of a list
step : (opening : CardState) (ds : List Decided) → Allowed opening ds → AllFit ds → (n : ℕ) (d : Decided) → slice_get ds n ≡ Some d
    → IsKeptCard (totals opening (take n ds)) → IsKeptCard (totals opening (take n ds ++ d ∷ []))
step opening ds allowed fit n d here before =
    let finds : FindsAllowed (totals opening (take n ds)) d = allowed n d here in
    let within : n < length ds = slice_get_within ds n d here in
    let fits : FitsFields d.decision = subst (λ (e : Decided). FitsFields e.decision) (get_or_from_slice_get ds n d d here) (fit n d within) in
    let found = some_at (totals opening (take n ds)).apps.items d.app finds.in_range in
    card_keeps (totals opening (take n ds)) d before finds fits found.0 found.1 opening (take n ds) refl

-- the totals of the first decisions
front : (opening : CardState) (ds : List Decided) → IsCardState opening → HasShortLogs opening → Allowed opening ds → AllFit ds → (n : ℕ) → n ≤ length ds
    → IsKeptCard (totals opening (take n ds))
front opening ds is short allowed fit zero within = card_opens opening is short
front opening ds is short allowed fit (suc n) within =
    let found = some_at ds n (omega arith) in
    let more : take (suc n) ds ≡ take n ds ++ found.0 ∷ [] =
    ap (λ m. take m ds) (sym (add-one n)) ∙ take_more ds n found.0 (omega arith) ∙ ap (λ (e : Decided). take n ds ++ e ∷ []) (get_or_from_slice_get ds n found.0 found.0 found.1) in
    subst (λ (es : List Decided). IsKeptCard (totals opening es)) (sym more)
    (step opening ds allowed fit n found.0 found.1 (front opening ds is short allowed fit n (omega arith)))

pub totals-encodable : (opening : CardState) (ds : List Decided) → IsCardState opening → HasShortLogs opening → Allowed opening ds → AllFit ds
    → IsCardState (totals opening ds)
totals-encodable opening ds is short allowed fit =
    let kept : IsKeptCard (totals opening ds) =
    subst (λ (es : List Decided). IsKeptCard (totals opening es)) (take_all (length ds) ds (omega arith)) (front opening ds is short allowed fit (length ds) (omega arith)) in
    let each = kept.apps in
    record { few = kept.few; apps = λ k d within. encodable _ (each k d within) }
