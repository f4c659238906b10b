-- One more lane read, and the sum of its purchases.
use Rattle.std.proofs.Common.{◌≡◌, ℕ, zero, suc, true, ◌⊎◌, inl, inr, ◌+◌, ◌<◌, List, [], ◌∷◌, ◌++◌, length, get_or, slice_get, drop, Some, Result, Ok, Err, refl, ap, sym, subst, ◌∙◌}
use Rattle.std.proofs.lemmas.Option.{same_Some}
use Rattle.std.proofs.lemmas.List.Sums.{sum_by_push}
use Rattle.toml.proofs.Views.{items_view-drop}
use Rattle.toml.specs.Data.{Data, Items, item}
use Rattle.toml.specs.View.{view, items_view}
use Rattle.toml.specs.declared.value.Value.{Value}
use Rattle.scenario_fields.proofs.Loops.{front_moved}
use Rattle.scenario_fields.specs.Fields.{with_front}
use Rattle.scenario_fields.specs.declared.fault.ScenarioFault.{ScenarioFault}
use Rattle.scenario_fields.specs.declared.place.LaneAt.TheVariants.{Numbered}
use Rattle.scenario_lanes.specs.Lanes.{lane_item, lanes_from}
use Rattle.scenario_lanes.specs.Plan.{LaneData, HasOwnPages, HaveRoom, purchase_count}

lanes_step : (path : List ℕ → List ℕ) (names : List (List ℕ)) (pin : List ℕ) (front : List LaneData) (i earlier : ℕ) (d : Data) (ds : Items) (x : LaneData) →
    lane_item path i earlier names pin d ≡ Ok x →
    with_front (front ++ x ∷ []) (lanes_from path (i + 1) (earlier + length x.purchases) names pin ds)
    ≡ with_front front (lanes_from path i earlier names pin (item d ds))
lanes_step path names pin front i earlier d ds x is =
    rw is (front_moved front x (lanes_from path (i + 1) (earlier + length x.purchases) names pin ds))

pub lanes_pushed : (path : List ℕ → List ℕ) (names : List (List ℕ)) (pin : List ℕ) (i j earlier size : ℕ) (vs : List Value) (v : Value) (old new : List LaneData) (x : LaneData)
    (whole : Result (List LaneData) ScenarioFault) →
    i < length vs → v ≡ get_or vs i v → j ≡ i → new ≡ old ++ x ∷ [] → length x.purchases ≡ size →
    lane_item path j earlier names pin (view v) ≡ Ok x →
    with_front old (lanes_from path i earlier names pin (items_view (drop i vs))) ≡ whole →
    with_front new (lanes_from path (i + 1) (earlier + size) names pin (items_view (drop (i + 1) vs))) ≡ whole
lanes_pushed path names pin i j earlier size vs v old new x whole inside item_is at pushed sized is before =
    rw (pushed, ← sized)
    (lanes_step path names pin old i earlier (view (get_or vs i v)) (items_view (drop (i + 1) vs)) x
    (subst (λ (k : ℕ). lane_item path k earlier names pin (view (get_or vs i v)) ≡ Ok x) at
    (subst (λ (w : Value). lane_item path j earlier names pin (view w) ≡ Ok x) item_is is))
    ∙ (ap (λ (ds : Items). with_front old (lanes_from path i earlier names pin ds)) (sym (items_view-drop vs i v inside)) ∙ before))

-- what the first lane that is none makes of the whole
pub lanes_stopped : (path : List ℕ → List ℕ) (names : List (List ℕ)) (pin : List ℕ) (i j earlier : ℕ) (vs : List Value) (v : Value) (old : List LaneData)
    (whole : Result (List LaneData) ScenarioFault) (e : ScenarioFault) →
    i < length vs → v ≡ get_or vs i v → j ≡ i →
    with_front old (lanes_from path i earlier names pin (items_view (drop i vs))) ≡ whole →
    lane_item path j earlier names pin (view v) ≡ Err e → whole ≡ Err e
lanes_stopped path names pin i j earlier vs v old whole e inside item_is at before is =
    let first : lane_item path i earlier names pin (view (get_or vs i v)) ≡ Err e =
    subst (λ (k : ℕ). lane_item path k earlier names pin (view (get_or vs i v)) ≡ Err e) at
    (subst (λ (w : Value). lane_item path j earlier names pin (view w) ≡ Err e) item_is is) in
    sym before ∙ (ap (λ (ds : Items). with_front old (lanes_from path i earlier names pin ds)) (items_view-drop vs i v inside) ∙ rw first refl)

pub purchase_count-push : (lanes : List LaneData) (x : LaneData) → purchase_count (lanes ++ x ∷ []) ≡ purchase_count lanes + length x.purchases
purchase_count-push lanes x = sum_by_push (λ lane. length lane.purchases) lanes x

-- an element of a list that has grown stands among the earlier ones, or is the new one
push_at : {A : Type 0} (xs : List A) (e : A) (k : ℕ) (x : A) → slice_get (xs ++ e ∷ []) k ≡ Some x
    → (slice_get xs k ≡ Some x) ⊎ ((k ≡ length xs) × (e ≡ x))
push_at [] e zero x here = inr (refl, same_Some e x here)
push_at [] e (suc k) x here = cc
push_at (y ∷ ys) e zero x here = inl here
push_at (y ∷ ys) e (suc k) x here =
    elim (push_at ys e k x here) [ inl before ↦ inl before | inr last ↦ inr (ap (λ n. suc n) last.0, last.1) ]

-- the room of one more lane
pub HaveRoom-push : (cards : ℕ) (lanes : List LaneData) (x : LaneData) (j : ℕ) → j ≡ length lanes → HaveRoom cards lanes
    → (x.durable ≡ true → HasOwnPages cards (Numbered j)) → HaveRoom cards (lanes ++ x ∷ [])
HaveRoom-push cards lanes x j at before here i lane there durable =
    elim (push_at lanes x i lane there) [
      | inl old ↦ before i lane old durable
      | inr new ↦
          let at_end : HasOwnPages cards (Numbered j) = here (ap (λ (l : LaneData). l.durable) new.1 ∙ durable) in
          subst (λ (k : ℕ). HasOwnPages cards (Numbered k)) (at ∙ sym new.0) at_end
    ]
