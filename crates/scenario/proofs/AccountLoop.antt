-- One more account read.
use Rattle.std.proofs.Common.{◌≡◌, ℕ, ◌+◌, ◌<◌, List, [], ◌∷◌, ◌++◌, length, get_or, drop, Result, Ok, Err, refl, ap, sym, subst, ◌∙◌}
use Rattle.issuer_host.specs.Account.{AccountData}
use Rattle.toml.proofs.Views.{items_view-drop}
use Rattle.toml.specs.Data.{Data, Items, item}
use Rattle.toml.specs.View.{view, items_view}
use Rattle.toml.specs.declared.value.Value.{Value}
use Rattle.scenario_fields.proofs.Loops.{front_moved}
use Rattle.scenario_fields.specs.Fields.{with_front}
use Rattle.scenario_fields.specs.declared.fault.ScenarioFault.{ScenarioFault}
use Rattle.scenario.specs.Accounts.{account_item, accounts_from}

-- where the element of this loop's turn stands
in_turn : (path : List ℕ → List ℕ) (i j : ℕ) (earlier : List AccountData) (vs : List Value) (v : Value) (found : Result AccountData ScenarioFault) →
    v ≡ get_or vs i v → j ≡ i → account_item path j earlier (view v) ≡ found → account_item path i earlier (view (get_or vs i v)) ≡ found
in_turn path i j earlier vs v found item_is at is =
    subst (λ (k : ℕ). account_item path k earlier (view (get_or vs i v)) ≡ found) at (subst (λ (w : Value). account_item path j earlier (view w) ≡ found) item_is is)

accounts_step : (path : List ℕ → List ℕ) (front : List AccountData) (i : ℕ) (d : Data) (ds : Items) (x : AccountData) → account_item path i front d ≡ Ok x →
    with_front (front ++ x ∷ []) (accounts_from path (i + 1) (front ++ x ∷ []) ds) ≡ with_front front (accounts_from path i front (item d ds))
accounts_step path front i d ds x is = rw is (front_moved front x (accounts_from path (i + 1) (front ++ x ∷ []) ds))

pub accounts_pushed : (path : List ℕ → List ℕ) (i j : ℕ) (vs : List Value) (v : Value) (old new : List AccountData) (x : AccountData) (whole : Result (List AccountData) ScenarioFault) →
    i < length vs → v ≡ get_or vs i v → j ≡ i → new ≡ old ++ x ∷ [] → account_item path j old (view v) ≡ Ok x →
    with_front old (accounts_from path i old (items_view (drop i vs))) ≡ whole →
    with_front new (accounts_from path (i + 1) new (items_view (drop (i + 1) vs))) ≡ whole
accounts_pushed path i j vs v old new x whole inside item_is at pushed is before =
    rw pushed
    (accounts_step path old i (view (get_or vs i v)) (items_view (drop (i + 1) vs)) x (in_turn path i j old vs v (Ok x) item_is at is)
    ∙ (ap (λ (ds : Items). with_front old (accounts_from path i old ds)) (sym (items_view-drop vs i v inside)) ∙ before))

-- what the first account that is none makes of the whole
pub accounts_stopped : (path : List ℕ → List ℕ) (i j : ℕ) (vs : List Value) (v : Value) (old : List AccountData) (whole : Result (List AccountData) ScenarioFault) (e : ScenarioFault) →
    i < length vs → v ≡ get_or vs i v → j ≡ i →
    with_front old (accounts_from path i old (items_view (drop i vs))) ≡ whole →
    account_item path j old (view v) ≡ Err e → whole ≡ Err e
accounts_stopped path i j vs v old whole e inside item_is at before is =
    let first : account_item path i old (view (get_or vs i v)) ≡ Err e = in_turn path i j old vs v (Err e) item_is at is in
    sym before ∙ (ap (λ (ds : Items). with_front old (accounts_from path i old ds)) (items_view-drop vs i v inside) ∙ rw first refl)
