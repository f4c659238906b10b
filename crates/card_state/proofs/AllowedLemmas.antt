-- A list of allowed decisions stays one with a decision more that its totals allow.
use Rattle.std.proofs.Common.{◌≡◌, ℕ, zero, suc, ◌⊎◌, List, [], ◌∷◌, ◌++◌, take, slice_get, Some, refl, sym, ap, subst, inl, inr}
use Rattle.card_state.specs.declared.state.CardState.{CardState}
use Rattle.card_state.specs.Allowed.{FindsAllowed, Allowed}
use Rattle.card_state.specs.Decisions.{Decided}
use Rattle.card_state.specs.Totals.{totals}

-- an element of the longer list stands among the earlier ones, or is the new one
push_at : (ds : List Decided) (e : Decided) (k : ℕ) (d : Decided) → slice_get (ds ++ e ∷ []) k ≡ Some d
    → ((slice_get ds k ≡ Some d) × (take k (ds ++ e ∷ []) ≡ take k ds)) ⊎ ((e ≡ d) × (take k (ds ++ e ∷ []) ≡ ds))
push_at [] e zero d here = inr (cc, refl)
push_at [] e (suc k) d here = cc
push_at (x ∷ xs) e zero d here = inl (here, refl)
push_at (x ∷ xs) e (suc k) d here =
    elim (push_at xs e k d here) [
      | inl before ↦ inl (before.0, ap (λ (ys : List Decided). x ∷ ys) before.1)
      | inr last ↦ inr (last.0, ap (λ (ys : List Decided). x ∷ ys) last.1)
    ]

pub Allowed-push : (opening : CardState) (ds : List Decided) (e : Decided) → Allowed opening ds → FindsAllowed (totals opening ds) e → Allowed opening (ds ++ e ∷ [])
Allowed-push opening ds e allowed finds = λ k d here.
    elim (push_at ds e k d here) [
      | inl before ↦ subst (λ (ys : List Decided). FindsAllowed (totals opening ys) d) (sym before.1) (allowed k d before.0)
      | inr last ↦ subst (λ (ys : List Decided). FindsAllowed (totals opening ys) d) (sym last.1) (subst (λ (x : Decided). FindsAllowed (totals opening ds) x) last.0 finds)
    ]

-- the same for the state that has these totals
pub Allowed-longer : (opening old : CardState) (ds : List Decided) (e : Decided) → old ≡ totals opening ds → FindsAllowed old e → Allowed opening ds
    → Allowed opening (ds ++ e ∷ [])
Allowed-longer opening old ds e is finds allowed =
    Allowed-push opening ds e allowed (subst (λ (s : CardState). FindsAllowed s e) is finds)
