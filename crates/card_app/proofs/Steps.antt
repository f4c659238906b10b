-- One decision after another.
use Rattle.std.proofs.Common.{◌≡◌, ℕ, ◌+◌, Bool, true, false, List, [], ◌∷◌, ◌++◌, Option, Some, None, option_map, refl, ap, sym, subst, ◌∙◌, arith, append-nil}
use Rattle.std.specs.Prelude.{if◌then◌else◌}
use Rattle.std.proofs.lemmas.List.{append_assoc}
use Rattle.card_state.specs.Decisions.{Decided}
use Rattle.card_state.specs.declared.state.CardState.{CardState}
use Rattle.emv_ports.specs.Causes.{one_more}
use Rattle.emv_ports.specs.Cut.{names_commit}
use Rattle.emv_ports.specs.Memory.{Memory}
use Rattle.emv_ports.specs.declared.tear.Tear.{Tear}
use Rattle.card_app.specs.Cuts.{Cut, Fate, Dropped, Joined, Pending, cut_of, behind_one, fate_by, kept_by, pending_by}
use Rattle.emv_ports.specs.Cut.{commit_of}
use Rattle.card_app.specs.Pages.{MayStand}
use Rattle.card_app.specs.SeenKept.{KeptState, KeptOn, Took, CutAt}

abbrev alone : Decided → Cut
alone d = record { before = []; cut = d }

is_cut : (named : Bool) (d : Decided) → (if named then Some (alone d) else option_map (behind_one d) None) ≡ Some (alone d) → named ≡ true
is_cut true d is = refl
is_cut false d is = cc

is_spared : (named : Bool) (d : Decided) → (if named then Some (alone d) else option_map (behind_one d) None) ≡ None → named ≡ false
is_spared true d is = cc
is_spared false d is = refl

module _ (opening : CardState) (ds : List Decided) (plan : Option Tear) (made : ℕ) (one : Decided) where
  abbrev first_named : Bool
  first_named = names_commit plan (commit_of (made + 1))

  -- the first of several is cut
  pub cut_first : (old lost : Memory) (more : List Decided) → CutAt old lost opening ds (one ∷ []) plan made (alone one)
      → CutAt old lost opening ds (one ∷ more) plan made (alone one)
  unfolding cut_of
  cut_first old lost more at =
      let named = is_cut first_named one at.cut in
      record {
        cut = ap (λ b. if b then Some (alone one) else option_map (behind_one one) (cut_of plan (made + 1) more)) named;
        left = at.left;
      }

  module _ (other : Decided) where
    abbrev longer : List Decided
    longer = ds ++ one ∷ []

    abbrev both : Cut
    both = record { before = one ∷ []; cut = other }

    behind_spared : cut_of plan made (one ∷ []) ≡ None → cut_of plan made (one ∷ other ∷ []) ≡ option_map (behind_one one) (cut_of plan (made + 1) (other ∷ []))
    unfolding cut_of
    behind_spared spared =
        ap (λ b. if b then Some (alone one) else option_map (behind_one one) (cut_of plan (made + 1) (other ∷ []))) (is_spared first_named one spared)

    -- two decisions are taken, one after the other
    pub takes_two : (next : KeptState) → cut_of plan made (one ∷ []) ≡ None → Took next opening longer (other ∷ []) plan (made + 1)
        → Took next opening ds (one ∷ other ∷ []) plan made
    takes_two next spared took =
        let lists : longer ++ other ∷ [] ≡ ds ++ one ∷ other ∷ [] = append_assoc ds (one ∷ []) (other ∷ []) in
        let counts : made + 1 + 1 ≡ made + 2 = omega arith in
        record {
          spared = behind_spared spared ∙ ap (λ (o : Option Cut). option_map (behind_one one) o) took.spared;
          kept =
              subst (λ n. KeptOn next opening (ds ++ one ∷ other ∷ []) plan n) counts
              (subst (λ (xs : List Decided). KeptOn next opening xs plan (made + 1 + 1)) lists took.kept);
        }

    -- what is left of two where the second is cut
    left_kept : (left : Fate) → kept_by left longer (alone other) ≡ kept_by left ds both
    left_kept Dropped = append-nil longer
    left_kept Joined = ap (λ (xs : List Decided). xs ++ other ∷ []) (append-nil longer)
    left_kept Pending = append-nil longer

    left_pending : (left : Fate) → pending_by left (alone other) ≡ pending_by left both
    left_pending Dropped = refl
    left_pending Joined = refl
    left_pending Pending = refl

    -- the second is cut
    pub cut_second : (old between lost : Memory) → between.losses ≡ old.losses → cut_of plan made (one ∷ []) ≡ None
        → CutAt between lost opening longer (other ∷ []) plan (made + 1) (alone other)
        → CutAt old lost opening ds (one ∷ other ∷ []) plan made both
    cut_second old between lost losses spared at =
        let gone = at.left.gone in
        record {
          cut = behind_spared spared ∙ ap (λ (o : Option Cut). option_map (behind_one one) o) at.cut;
          left = record {
            gone = record { off = gone.off; plan = gone.plan; losses = gone.losses ∙ ap one_more losses };
            stands = λ version.
                subst (λ (p : Option Decided). MayStand lost.cells version opening (kept_by (fate_by plan) ds both) p) (left_pending (fate_by plan))
                (subst (λ (xs : List Decided). MayStand lost.cells version opening xs (pending_by (fate_by plan) (alone other))) (left_kept (fate_by plan))
                (at.left.stands version));
          };
        }

-- where nothing is decided the pages stand for the same list
pub takes_none : (kept : KeptState) (opening : CardState) (ds : List Decided) (plan : Option Tear) (made : ℕ) → KeptOn kept opening ds plan made
    → Took kept opening ds [] plan made
unfolding cut_of
takes_none kept opening ds plan made on =
    let count : made ≡ made + 0 = omega arith in
    record {
      spared = refl;
      kept =
          subst (λ n. KeptOn kept opening (ds ++ []) plan n) count
          (subst (λ (xs : List Decided). KeptOn kept opening xs plan made) (sym (append-nil ds)) on);
    }
