-- An application of the card that can serve a purchase.
use Rattle.std.proofs.Common.{◌≡◌, ℕ, zero, suc, Bool, true, false, not, nat_lt, List, [], ◌∷◌, get_or, slice_get, Some, Contains, inl, inr, refl, ap, sym, ◌∙◌, lt-ltb, ltb-true}
use Rattle.std.proofs.lemmas.Bool.{and_parts, and_from, or_parts, or_cases, not-true, not_from_false, both_ways}
use Rattle.std.proofs.lemmas.List.Folds.{Any-from_list_any, list_any_at}
use Rattle.std.specs.List.{list_any, Any}
use Rattle.app_select.specs.Candidates.{is_allowed}
use Rattle.app_select.specs.Said.{is_supported}
use Rattle.card_files.specs.Views.{AppData, ImageData}
use Rattle.card_state.specs.declared.state.AppState.{AppState}
use Rattle.card_state.specs.declared.state.CardState.{CardState}
use Rattle.card_check.specs.Judged.{is_chosen, serves, some_serves}
use Rattle.dialogue_laws.specs.WellFormed.{CanServe, candidate_listed}
use Rattle.emv_dict.specs.declared.purchase.AidRow.{AidRow}
use Rattle.terminal_state.specs.Terminal.{Outset}

-- one application serves, in its state
record Serving (outset : Outset) (apps : List AppData) (states : List AppState) : Type 0 where
  app : ℕ
  own : AppData
  now : AppState
  is : slice_get apps app ≡ Some own
  state_is : slice_get states app ≡ Some now
  serves_is : serves outset own now ≡ true

later_serves : (outset : Outset) (a : AppData) (apps : List AppData) (s : AppState) (states : List AppState) → Serving outset apps states → Serving outset (a ∷ apps) (s ∷ states)
later_serves outset a apps s states later =
    record { app = suc later.app; own = later.own; now = later.now; is = later.is; state_is = later.state_is; serves_is = later.serves_is }

found_serving : (outset : Outset) (apps : List AppData) (states : List AppState) → some_serves outset apps states ≡ true → Serving outset apps states
found_serving outset [] states some = absurd (cc)
found_serving outset (a ∷ apps) [] some = absurd (cc)
found_serving outset (a ∷ apps) (s ∷ states) some =
    elim (or_cases (serves outset a s) (some_serves outset apps states) some) [
      | inl here ↦ record { app = 0; own = a; now = s; is = refl; state_is = refl; serves_is = here }
      | inr later ↦ later_serves outset a apps s states (found_serving outset apps states later)
    ]

none_serves : (outset : Outset) (apps : List AppData) (states : List AppState) → some_serves outset apps states ≡ false
    → (app : ℕ) (a : AppData) (s : AppState) → slice_get apps app ≡ Some a → slice_get states app ≡ Some s → serves outset a s ≡ false
none_serves outset [] states none app a s a_is s_is = absurd (cc)
none_serves outset (b ∷ apps) [] none app a s a_is s_is = absurd (cc)
none_serves outset (b ∷ apps) (t ∷ states) none zero a s a_is s_is =
    let app_same : b ≡ a = cc in
    let state_same : t ≡ s = cc in
    ap (λ (x : AppData). serves outset x s) (sym app_same) ∙ ap (λ (x : AppState). serves outset b x) (sym state_same)
    ∙ (or_parts (serves outset b t) (some_serves outset apps states) none).0
none_serves outset (b ∷ apps) (t ∷ states) none (suc app) a s a_is s_is =
    none_serves outset apps states (or_parts (serves outset b t) (some_serves outset apps states) none).1 app a s a_is s_is

-- a row of the list that passes
record Listed (confirm : Bool) (a : AppData) (aids : List AidRow) : Type 0 where
  row : AidRow
  listed : Contains aids row
  chosen : is_chosen confirm a row ≡ true

listed : (confirm : Bool) (a : AppData) (aids : List AidRow) → list_any (is_chosen confirm a) aids ≡ true → Listed confirm a aids
listed confirm a aids some =
    let found : Any (λ row. is_chosen confirm a row ≡ true) aids = Any-from_list_any (is_chosen confirm a) aids some in
    record { row = found.1; listed = (found.0, found.2, found.3); chosen = found.4 }

can_serve : (image : ImageData) (state : CardState) (outset : Outset) → Serving outset image.apps state.apps.items → CanServe image state outset
can_serve image state outset found =
    let parts = and_parts (not found.now.blocked) _ found.serves_is in
    let others = and_parts (nat_lt found.now.counter 65535) (list_any (is_chosen outset.purchase.confirm found.own) outset.settings.aids) parts.1 in
    let one = listed outset.purchase.confirm found.own outset.settings.aids others.1 in
    let chosen = and_parts (is_supported one.row.name one.row.partial found.own.name) (is_allowed outset.purchase.confirm (candidate_listed one.row found.own)) one.chosen in
    record {
      app = found.app;
      own = found.own;
      now = found.now;
      row = one.row;
      is = found.is;
      state_is = found.state_is;
      unblocked = not-true found.now.blocked parts.0;
      counter = ltb-true found.now.counter 65535 others.0;
      listed = one.listed;
      supported = chosen.0;
      allowed = chosen.1;
    }

pub serves_from : (image : ImageData) (state : CardState) (outset : Outset) → some_serves outset image.apps state.apps.items ≡ true → CanServe image state outset
serves_from image state outset some = can_serve image state outset (found_serving outset image.apps state.apps.items some)

serves_by : (image : ImageData) (state : CardState) (outset : Outset) (can : CanServe image state outset) → serves outset can.own can.now ≡ true
serves_by image state outset can =
    let chosen : is_chosen outset.purchase.confirm can.own can.row ≡ true =
    and_from (is_supported can.row.name can.row.partial can.own.name) (is_allowed outset.purchase.confirm (candidate_listed can.row can.own)) can.supported can.allowed in
    let at : is_chosen outset.purchase.confirm can.own (get_or outset.settings.aids can.listed.0 can.row) ≡ true =
    ap (is_chosen outset.purchase.confirm can.own) can.listed.2 ∙ chosen in
    and_from (not can.now.blocked) _ (not_from_false can.now.blocked can.unblocked)
    (and_from (nat_lt can.now.counter 65535) _ (lt-ltb can.now.counter 65535 can.counter)
    (list_any_at (is_chosen outset.purchase.confirm can.own) outset.settings.aids can.listed.0 can.row can.listed.1 at))

pub unserved_is : (image : ImageData) (state : CardState) (outset : Outset) → some_serves outset image.apps state.apps.items ≡ false → CanServe image state outset → ⊥
unserved_is image state outset none can =
    both_ways (serves outset can.own can.now) (none_serves outset image.apps state.apps.items none can.app can.own can.now can.is can.state_is) (serves_by image state outset can)
