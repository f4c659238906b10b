-- The limits of the logs stay those of the opening state.
use Rattle.std.proofs.Common.{◌≡◌, ℕ, zero, suc, ◌+◌, ◌<◌, ◌≤◌, List, [], ◌∷◌, All, length, set, slice_get, get_or, Some, sym, subst, arith}
use Rattle.std.specs.Option.{ForSome}
use Rattle.std.proofs.lemmas.List.Elements.{All-set}
use Rattle.std.proofs.lemmas.Option.{slice_get_within, get_or_from_slice_get, slice_get-get_or}
use Rattle.card_state.specs.declared.decision.Decision.{Decision}
use Rattle.card_state.specs.declared.state.AppState.{AppState}
use Rattle.card_state.specs.declared.state.CardState.{CardState}
use Rattle.card_state.specs.Change.{changed}
use Rattle.card_state.specs.Decisions.{Decided}
use Rattle.card_state.specs.Encoding.{HasShortLogs}
use Rattle.card_state.specs.Totals.{app_totals, apps_totals, own_decisions, totals}

abbrev IsShort : AppState → Type 0
IsShort s = s.log_max ≤ 10

same_limit : (o : AppState) (ds : List Decided) (n : ℕ) → IsShort o → IsShort (app_totals o (own_decisions n ds))
unfolding app_totals
same_limit o ds n short = short

apps_short : (n : ℕ) (os : List AppState) (ds : List Decided) → All IsShort os → All IsShort (apps_totals n os ds)
unfolding apps_totals
apps_short n [] ds are k d within = absurd (omega arith)
apps_short n (o ∷ os) ds are zero d within = same_limit o ds n (are 0 o (omega arith))
apps_short n (o ∷ os) ds are (suc k) d within = apps_short (n + 1) os ds (λ i e below. are (suc i) e (omega arith)) k d (omega arith)

-- an opening state's short logs are those of its totals
pub totals_short : (opening : CardState) (ds : List Decided) → HasShortLogs opening → HasShortLogs (totals opening ds)
unfolding totals
totals_short opening ds short = apps_short 0 opening.apps.items ds short

-- what a decision of an application wants
pub short_at : (state : CardState) (app : ℕ) → HasShortLogs state → ForSome (slice_get state.apps.items app) (λ s. s.log_max ≤ 10)
short_at state app short = λ s found.
    subst (λ (t : AppState). IsShort t) (get_or_from_slice_get state.apps.items app s s found)
    (short app s (slice_get_within state.apps.items app s found))

-- and what it leaves
pub short_after : (old new : CardState) (app : ℕ) (d : Decision) → app < length old.apps.items
    → ((s : AppState) → slice_get old.apps.items app ≡ Some s → new.apps.items ≡ set old.apps.items app (changed s d))
    → HasShortLogs old → HasShortLogs new
short_after old new app d inside apps short = at_least old.apps.items new.apps.items app (λ s. changed s d) inside apps short (λ s was. was)
  where
    at_least : (olds news : List AppState) (app : ℕ) (behind : AppState → AppState) → app < length olds
        → ((s : AppState) → slice_get olds app ≡ Some s → news ≡ set olds app (behind s)) → All IsShort olds
        → ((s : AppState) → IsShort s → IsShort (behind s)) → All IsShort news
    at_least [] news app behind inside apps short stays = absurd (omega arith)
    at_least (s ∷ ss) news app behind inside apps short stays =
        let here : AppState = get_or (s ∷ ss) app s in
        let found : slice_get (s ∷ ss) app ≡ Some here = slice_get-get_or (s ∷ ss) app s inside in
        subst (λ (xs : List AppState). All IsShort xs) (sym (apps here found))
        (All-set IsShort (s ∷ ss) app (behind here) (stays here (short app s inside)) short)
