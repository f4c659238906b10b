-- A PIN try and then the comparison.
use Rattle.std.proofs.Common.{◌≡◌, ℕ, ◌+◌, Bool, true, false, List, [], ◌∷◌, ◌++◌, Option, sym, subst}
use Rattle.card_state.specs.Decisions.{Decided}
use Rattle.card_state.specs.declared.decision.Decision.TheVariants.{PinTry, PinRight}
use Rattle.card_state.specs.declared.state.CardState.{CardState}
use Rattle.emv_ports.specs.Memory.{Memory}
use Rattle.emv_ports.specs.declared.tear.Tear.{Tear}
use Rattle.card_app.specs.Cuts.{Cut}
use Rattle.card_app.specs.Comparing.{compared, comparison_reply, is_equal}
use Rattle.card_app.specs.SeenKept.{KeptState, KeptOn, Took, Takes, CutAt, IsCutAlone}
use Rattle.card_app.specs.declared.comparing.Comparison.{Comparison}
use Rattle.card_app.proofs.Steps.{cut_first, takes_two, cut_second}

module _ (k : Comparison) where
  abbrev one : Decided
  one = record { app = k.app; decision = PinTry }

  abbrev other : Decided
  other = record { app = k.app; decision = PinRight k.limit }

  abbrev new_with : Bool → List Decided
  new_with right = (compared k.app k.limit k.tries right).new

  module _ (old : KeptState) (opening : CardState) (ds : List Decided) (plan : Option Tear) (made : ℕ) (on : KeptOn old opening ds plan made) where
    -- the try is cut
    pub cut_try : (lost : Memory) → IsCutAlone old lost one
        → (at : Cut) × CutAt old.memory lost opening ds (comparison_reply k).new plan made at
    cut_try lost cut = by_test (is_equal k)
      where
        by_test : (right : Bool) → (at : Cut) × CutAt old.memory lost opening ds (new_with right) plan made at
        by_test true = (record { before = []; cut = one }, cut_first opening ds plan made one old.memory lost (other ∷ []) (cut opening ds plan made on))
        by_test false = (record { before = []; cut = one }, cut opening ds plan made on)

    -- the try alone is taken
    pub took_try : (next : KeptState) → is_equal k ≡ false → Takes old next (one ∷ []) → Took next opening ds (comparison_reply k).new plan made
    took_try next wrong takes =
        subst (λ right. Took next opening ds (new_with right) plan made) (sym wrong) (takes opening ds plan made on)

    module _ (between : KeptState) (takes : Takes old between (one ∷ [])) (right : is_equal k ≡ true) where
      -- the try is taken, and behind it the tries are restored
      pub took_both : (next : KeptState) → Takes between next (other ∷ []) → Took next opening ds (comparison_reply k).new plan made
      took_both next then =
          let first = takes opening ds plan made on in
          subst (λ right. Took next opening ds (new_with right) plan made) (sym right)
          (takes_two opening ds plan made one other next first.spared (then opening (ds ++ one ∷ []) plan (made + 1) first.kept))

      -- the restored tries are cut
      pub cut_right : (lost : Memory) → between.memory.losses ≡ old.memory.losses → IsCutAlone between lost other
          → (at : Cut) × CutAt old.memory lost opening ds (comparison_reply k).new plan made at
      cut_right lost losses cut =
          let first = takes opening ds plan made on in
          let both : Cut = record { before = one ∷ []; cut = other } in (
            both,
            subst (λ right. CutAt old.memory lost opening ds (new_with right) plan made both) (sym right)
                (cut_second opening ds plan made one other old.memory between.memory lost losses first.spared
                (cut opening (ds ++ one ∷ []) plan (made + 1) first.kept)),
          )
