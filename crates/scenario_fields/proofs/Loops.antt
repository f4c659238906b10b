-- Arrays that are read element by element, up to the first fault.
use Rattle.std.proofs.Common.{◌≡◌, ℕ, ◌+◌, ◌<◌, List, [], ◌∷◌, ◌++◌, length, get_or, take, drop, Result, Ok, Err, refl, ap, sym, subst, add-one, ◌∙◌, append_assoc}
use Rattle.std.specs.List.{All}
use Rattle.std.proofs.Math.Seq.{take-suc}
use Rattle.std.proofs.lemmas.List.Elements.{All-push}
use Rattle.toml.proofs.Views.{items_view-drop}
use Rattle.toml.specs.Data.{Data, Items, item}
use Rattle.toml.specs.View.{view, items_view}
use Rattle.toml.specs.declared.value.Value.{Value}
use Rattle.scenario_fields.specs.Fault.{◌>>=◌, Fails}
use Rattle.scenario_fields.specs.Fields.{each, with_front}
use Rattle.scenario_fields.specs.declared.fault.ScenarioFault.{ScenarioFault}
use Rattle.scenario_fields.specs.declared.fault.ScenarioFault.TheVariants.{Toml, MissingKey, BadValue, OutOfLimit, UnknownKey, UnknownName, OutOfMemory}

pub front_moved : {B : Type 0} (front : List B) (x : B) (read : Result (List B) ScenarioFault) →
    with_front (front ++ x ∷ []) read ≡ with_front front (read >>= (λ rest. Ok (x ∷ rest)))
front_moved front x (Ok rest) = ap Ok (append_assoc front (x ∷ []) rest)
front_moved front x (Err e) = refl

each_step : {B : Type 0} (read : ℕ → Data → Result B ScenarioFault) (front : List B) (i : ℕ) (d : Data) (ds : Items) (x : B) → read i d ≡ Ok x →
    with_front (front ++ x ∷ []) (each read (i + 1) ds) ≡ with_front front (each read i (item d ds))
each_step read front i d ds x is = rw is (front_moved front x (each read (i + 1) ds))

pub each_pushed : {B : Type 0} (read : ℕ → Data → Result B ScenarioFault) (i j : ℕ) (vs : List Value) (v : Value) (old new : List B) (x : B)
    (whole : Result (List B) ScenarioFault) →
    i < length vs → v ≡ get_or vs i v → j ≡ i → new ≡ old ++ x ∷ [] → read j (view v) ≡ Ok x →
    with_front old (each read i (items_view (drop i vs))) ≡ whole →
    with_front new (each read (i + 1) (items_view (drop (i + 1) vs))) ≡ whole
each_pushed read i j vs v old new x whole inside item_is at pushed is before =
    rw pushed
    (each_step read old i (view (get_or vs i v)) (items_view (drop (i + 1) vs)) x
    (subst (λ (k : ℕ). read k (view (get_or vs i v)) ≡ Ok x) at (subst (λ (w : Value). read j (view w) ≡ Ok x) item_is is))
    ∙ (ap (λ (ds : Items). with_front old (each read i ds)) (sym (items_view-drop vs i v inside)) ∙ before))

-- a fault of one part that is the fault of the whole
pub Fails-then : {Y Z : Type 0} (e : ScenarioFault) (part : Result Y ScenarioFault) (whole : Result Z ScenarioFault) →
    ((d : ScenarioFault) → part ≡ Err d → whole ≡ Err d) → Fails e part → Fails e whole
Fails-then Toml part whole then is = then _ is
Fails-then (MissingKey path) part whole then is = then _ is
Fails-then (BadValue path) part whole then is = then _ is
Fails-then (OutOfLimit path) part whole then is = then _ is
Fails-then (UnknownKey path) part whole then is = then _ is
Fails-then (UnknownName path) part whole then is = then _ is
Fails-then OutOfMemory part whole then is = tt

-- one more element of a list that is walked
pub all_taken : {X : Type 0} (P : X → Type 0) (xs : List X) (i : ℕ) (x : X) → i < length xs → x ≡ get_or xs i x → All P (take i xs) → P x → All P (take (i + 1) xs)
all_taken P xs i x inside is all one =
    rw (add-one, take-suc xs i x inside) (All-push P (take i xs) (get_or xs i x) all (subst P is one))
