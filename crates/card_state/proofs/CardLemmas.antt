-- One more decision of an application changes the card's totals at that application.
use Rattle.std.proofs.Common.{◌≡◌, ◌≢◌, ℕ, zero, suc, ◌+◌, ◌<◌, ◌==◌, Bool, true, false, ◌||◌, if◌then◌else◌, List, [], ◌∷◌, ◌++◌, length, map, set, slice_get, Some, refl, sym, ◌∙◌, ap, append-nil, arith}
use Rattle.std.specs.List.{list_any, filter}
use Rattle.std.proofs.lemmas.Bool.Decides.{nat_tests}
use Rattle.std.proofs.lemmas.List.{map-append}
use Rattle.std.proofs.lemmas.List.Elements.{filter-append}
use Rattle.card_state.specs.declared.decision.Decision.{Decision}
use Rattle.card_state.specs.declared.state.AppState.{AppState}
use Rattle.card_state.specs.declared.state.CardState.{CardState}
use Rattle.card_state.specs.Decisions.{Decided, blocks_card}
use Rattle.card_state.specs.Totals.{app_totals, own_decisions, apps_totals, totals}
use Rattle.card_state.specs.Change.{changed}
use Rattle.card_state.proofs.Pushes.{any-push}
use Rattle.card_state.proofs.TotalsLemmas.{totals-push}

own_decisions-push : (app : ℕ) (ds : List Decided) (e : Decided)
    → own_decisions app (ds ++ e ∷ []) ≡ own_decisions app ds ++ (if e.app == app then e.decision ∷ [] else [])
unfolding own_decisions
own_decisions-push app ds e =
    ap (λ (xs : List Decided). map (λ d. d.decision) xs) (filter-append (λ d. d.app == app) ds (e ∷ []))
    ∙ map-append (λ (d : Decided). d.decision) (filter (λ d. d.app == app) ds) (filter (λ d. d.app == app) (e ∷ []))
    ∙ ap (λ (xs : List Decision). map (λ (d : Decided). d.decision) (filter (λ d. d.app == app) ds) ++ xs) (last (e.app == app))
  where
    last : (b : Bool) → map (λ (d : Decided). d.decision) (if b then e ∷ [] else []) ≡ (if b then e.decision ∷ [] else [])
    last true = refl
    last false = refl

own : (app : ℕ) (ds : List Decided) (e : Decided) → e.app ≡ app → own_decisions app (ds ++ e ∷ []) ≡ own_decisions app ds ++ e.decision ∷ []
own app ds e is =
    let same : (e.app == app) ≡ true = grind (arith, nat_tests) in
    own_decisions-push app ds e ∙ ap (λ b. own_decisions app ds ++ (if b then e.decision ∷ [] else [])) same

others : (app : ℕ) (ds : List Decided) (e : Decided) → e.app ≢ app → own_decisions app (ds ++ e ∷ []) ≡ own_decisions app ds
others app ds e is_not =
    let differs : (e.app == app) ≡ false = grind (arith, nat_tests) in
    own_decisions-push app ds e ∙ ap (λ b. own_decisions app ds ++ (if b then e.decision ∷ [] else [])) differs ∙ append-nil (own_decisions app ds)

-- the applications behind the one that decided stay
apps_totals-past : (n : ℕ) (openings : List AppState) (ds : List Decided) (e : Decided) → e.app < n → apps_totals n openings (ds ++ e ∷ []) ≡ apps_totals n openings ds
unfolding apps_totals
apps_totals-past n [] ds e past = refl
apps_totals-past n (o ∷ os) ds e past =
    let differs : e.app ≢ n = omega arith in
    ap (λ (xs : List Decision). app_totals o xs ∷ apps_totals (n + 1) os (ds ++ e ∷ [])) (others n ds e differs)
    ∙ ap (λ (xs : List AppState). app_totals o (own_decisions n ds) ∷ xs) (apps_totals-past (n + 1) os ds e (omega arith))

apps_totals-push : (n : ℕ) (openings : List AppState) (ds : List Decided) (e : Decided) (i : ℕ) (s : AppState) → e.app ≡ n + i
    → slice_get (apps_totals n openings ds) i ≡ Some s
    → apps_totals n openings (ds ++ e ∷ []) ≡ set (apps_totals n openings ds) i (changed s e.decision)
unfolding apps_totals
apps_totals-push n [] ds e i s here found = cc
apps_totals-push n (o ∷ os) ds e zero s here found =
    let at_n : e.app ≡ n = omega arith in
    let first : app_totals o (own_decisions n ds) ≡ s = cc in
    ap (λ (x : AppState). x ∷ apps_totals (n + 1) os (ds ++ e ∷ []))
    (ap (λ (xs : List Decision). app_totals o xs) (own n ds e at_n)
    ∙ totals-push o (own_decisions n ds) e.decision
    ∙ ap (λ (x : AppState). changed x e.decision) first)
    ∙ ap (λ (xs : List AppState). changed s e.decision ∷ xs) (apps_totals-past (n + 1) os ds e (omega arith))
apps_totals-push n (o ∷ os) ds e (suc i) s here found =
    let differs : e.app ≢ n = omega arith in
    ap (λ (xs : List Decision). app_totals o xs ∷ apps_totals (n + 1) os (ds ++ e ∷ [])) (others n ds e differs)
    ∙ ap (λ (xs : List AppState). app_totals o (own_decisions n ds) ∷ xs) (apps_totals-push (n + 1) os ds e i s (omega arith) found)

or_assoc : (a b c : Bool) → (a || (b || c)) ≡ ((a || b) || c)
or_assoc true b c = refl
or_assoc false b c = refl

some_at : (xs : List AppState) (i : ℕ) → i < length xs → (s : AppState) × (slice_get xs i ≡ Some s)
some_at [] i within = absurd (omega arith)
some_at (x ∷ xs) zero within = (x, refl)
some_at (x ∷ xs) (suc i) within = some_at xs i (omega arith)

-- a card state in which one application took one more decision is that of the longer list
pub totals-longer : (opening : CardState) (ds : List Decided) (app : ℕ) (d : Decision) (old new : CardState)
    → app < length old.apps.items
    → new.blocked ≡ (old.blocked || blocks_card d)
    → ((s : AppState) → slice_get old.apps.items app ≡ Some s → new.apps.items ≡ set old.apps.items app (changed s d))
    → old ≡ totals opening ds
    → new ≡ totals opening (ds ++ record { app = app; decision = d } ∷ [])
unfolding totals
totals-longer opening ds app d old new within card apps is =
    let e : Decided = record { app = app; decision = d } in
    let was_blocked : old.blocked ≡ (opening.blocked || list_any (λ (x : Decided). blocks_card x.decision) ds) = ap (λ (s : CardState). s.blocked) is in
    let were : old.apps.items ≡ apps_totals 0 opening.apps.items ds = ap (λ (s : CardState). s.apps.items) is in
    let blocked : new.blocked ≡ (opening.blocked || list_any (λ (x : Decided). blocks_card x.decision) (ds ++ e ∷ [])) =
    card
    ∙ ap (λ b. b || blocks_card d) was_blocked
    ∙ sym (or_assoc opening.blocked (list_any (λ (x : Decided). blocks_card x.decision) ds) (blocks_card d))
    ∙ ap (λ b. opening.blocked || b) (sym (any-push (λ (x : Decided). blocks_card x.decision) ds e)) in
    let found = some_at old.apps.items app within in
    let found_there : slice_get (apps_totals 0 opening.apps.items ds) app ≡ Some found.0 =
    ap (λ (xs : List AppState). slice_get xs app) (sym were) ∙ found.1 in
    let items : new.apps.items ≡ apps_totals 0 opening.apps.items (ds ++ e ∷ []) =
    apps found.0 found.1
    ∙ ap (λ (xs : List AppState). set xs app (changed found.0 d)) were
    ∙ sym (apps_totals-push 0 opening.apps.items ds e app found.0 (omega arith) found_there) in
    λ i. record { blocked = blocked i; apps = record { items = items i } }
