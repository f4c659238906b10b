-- The transaction counter of an application grows with the card's decisions, by one with each transaction that starts.
-- So it tells one transaction of an application from each other one.
use Rattle.std.proofs.Common.{◌≡◌, ℕ, zero, suc, ◌+◌, ◌≤◌, cond, List, [], ◌∷◌, ◌++◌, map, slice_get, Option, Some, None, false, refl, sym, ap, ◌∙◌, arith}
use Rattle.std.specs.Prelude.{◌==◌, option_map}
use Rattle.std.specs.List.{filter, count_by}
use Rattle.std.proofs.lemmas.Bool.{eq-eqb}
use Rattle.std.proofs.lemmas.List.{map-append}
use Rattle.std.proofs.lemmas.List.Elements.{filter-append}
use Rattle.std.proofs.lemmas.List.Sums.{sum_by-append}
use Rattle.std.proofs.lemmas.Option.{slice_get-map}
use Rattle.card_files.specs.Files.{opening_of}
use Rattle.card_files.specs.Views.{AppData, ImageData}
use Rattle.card_state.specs.Decisions.{Decided, is_start}
use Rattle.card_state.specs.Totals.{totals, apps_totals, app_totals, own_decisions}
use Rattle.card_state.specs.declared.decision.Decision.{Decision}
use Rattle.card_state.specs.declared.decision.Decision.TheVariants.{Started}
use Rattle.card_state.specs.declared.state.AppState.{AppState}
use Rattle.txn_replay.specs.Changes.{counter_or_zero, app_counter}

-- the totals of one application
at_app : (n i : ℕ) (os : List AppState) (ds : List Decided)
    → slice_get (apps_totals n os ds) i ≡ option_map (λ o. app_totals o (own_decisions (n + i) ds)) (slice_get os i)
unfolding apps_totals
at_app n i [] ds = refl
at_app n zero (o ∷ os) ds = let same : n ≡ n + 0 = omega arith in ap (λ m. Some (app_totals o (own_decisions m ds))) same
at_app n (suc i) (o ∷ os) ds =
    let same : n + 1 + i ≡ n + suc i = omega arith in
    at_app (n + 1) i os ds ∙ ap (λ m. option_map (λ x. app_totals x (own_decisions m ds)) (slice_get os i)) same

-- how many transactions of an application these decisions start
abbrev starts : ℕ → List Decided → ℕ
starts app ds = count_by is_start (own_decisions app ds)

abbrev counter_by : Option AppData → ℕ → List Decided → ℕ
counter_by None app ds = 0
counter_by (Some a) app ds = a.opening.counter + starts app ds

counter_is : (image : ImageData) (ds : List Decided) (app : ℕ) → app_counter image ds app ≡ counter_by (slice_get image.apps app) app ds
unfolding app_counter totals app_totals
counter_is image ds app =
    ap counter_or_zero
    (at_app 0 app (opening_of image).apps.items ds
    ∙ ap (λ (o : Option AppState). option_map (λ x. app_totals x (own_decisions (0 + app) ds)) o) (slice_get-map (λ (a : AppData). a.opening) image.apps app))
    ∙ by_app (slice_get image.apps app)
  where
    by_app : (o : Option AppData)
        → counter_or_zero (option_map (λ x. app_totals x (own_decisions (0 + app) ds)) (option_map (λ (a : AppData). a.opening) o)) ≡ counter_by o app ds
    by_app None = refl
    by_app (Some a) = let same : 0 + app ≡ app = omega arith in ap (λ m. a.opening.counter + count_by is_start (own_decisions m ds)) same

starts-append : (app : ℕ) (ds es : List Decided) → starts app (ds ++ es) ≡ starts app ds + starts app es
unfolding own_decisions
starts-append app ds es =
    ap (λ (xs : List Decided). count_by is_start (map (λ (d : Decided). d.decision) xs)) (filter-append (λ (d : Decided). d.app == app) ds es)
    ∙ ap (λ (xs : List Decision). count_by is_start xs)
    (map-append (λ (d : Decided). d.decision) (filter (λ d. d.app == app) ds) (filter (λ d. d.app == app) es))
    ∙ sum_by-append (λ (d : Decision). cond (is_start d) 1 0) (map (λ (d : Decided). d.decision) (filter (λ d. d.app == app) ds))
    (map (λ (d : Decided). d.decision) (filter (λ d. d.app == app) es))

pub counter_grows : (image : ImageData) (ds es : List Decided) (app : ℕ) → app_counter image ds app ≤ app_counter image (ds ++ es) app
counter_grows image ds es app =
    let before : app_counter image ds app ≡ counter_by (slice_get image.apps app) app ds = counter_is image ds app in
    let after : app_counter image (ds ++ es) app ≡ counter_by (slice_get image.apps app) app (ds ++ es) = counter_is image (ds ++ es) app in
    let more : counter_by (slice_get image.apps app) app ds ≤ counter_by (slice_get image.apps app) app (ds ++ es) = by_app (slice_get image.apps app) in
    omega arith
  where
    by_app : (o : Option AppData) → counter_by o app ds ≤ counter_by o app (ds ++ es)
    by_app None = omega arith
    by_app (Some a) = let split : starts app (ds ++ es) ≡ starts app ds + starts app es = starts-append app ds es in omega arith

one_start : (app : ℕ) → starts app (record { app = app; decision = Started } ∷ []) ≡ 1
unfolding own_decisions
one_start app = rw (eq-eqb app app refl) refl

pub counter_raised : (image : ImageData) (ds : List Decided) (app : ℕ) (a : AppData) → slice_get image.apps app ≡ Some a
    → app_counter image ds app + 1 ≤ app_counter image (ds ++ record { app = app; decision = Started } ∷ []) app
counter_raised image ds app a there =
    let new : List Decided = record { app = app; decision = Started } ∷ [] in
    let before : app_counter image ds app ≡ a.opening.counter + starts app ds =
    counter_is image ds app ∙ ap (λ (o : Option AppData). counter_by o app ds) there in
    let after : app_counter image (ds ++ new) app ≡ a.opening.counter + starts app (ds ++ new) =
    counter_is image (ds ++ new) app ∙ ap (λ (o : Option AppData). counter_by o app (ds ++ new)) there in
    let split : starts app (ds ++ new) ≡ starts app ds + starts app new = starts-append app ds new in
    let one : starts app new ≡ 1 = one_start app in
    omega arith

-- a decision that starts no transaction leaves it
pub counter_stays : (image : ImageData) (ds : List Decided) (app : ℕ) (decision : Decision) → is_start decision ≡ false
    → app_counter image (ds ++ record { app = app; decision = decision } ∷ []) app ≡ app_counter image ds app
unfolding own_decisions
counter_stays image ds app decision none =
    counter_is image (ds ++ new) app ∙ by_app (slice_get image.apps app) ∙ sym (counter_is image ds app)
  where
    new : List Decided
    new = record { app = app; decision = decision } ∷ []

    no_start : starts app new ≡ 0
    no_start = rw (eq-eqb app app refl, none) refl

    by_app : (o : Option AppData) → counter_by o app (ds ++ new) ≡ counter_by o app ds
    by_app None = refl
    by_app (Some a) = let split : starts app (ds ++ new) ≡ starts app ds + starts app new = starts-append app ds new in let zero_more : starts app new ≡ 0 = no_start in omega arith

pub counter_here : (image : ImageData) (ds : List Decided) (app : ℕ) (s : AppState) → slice_get (totals (opening_of image) ds).apps.items app ≡ Some s
    → app_counter image ds app ≡ s.counter
unfolding app_counter
counter_here image ds app s here = ap counter_or_zero here
