-- What is told of a card's decisions, behind one more command.
use Rattle.std.proofs.Common.{◌≡◌, ℕ, suc, ◌+◌, Bool, true, false, if◌then◌else◌, List, [], ◌∷◌, ◌++◌, length, Option, Some, None, option_map, refl, sym, ap, ◌∙◌, append_assoc, append-nil}
use Rattle.card_app.specs.Cuts.{Cut, Dropped, Fate, Joined, Pending, behind_one, cut_of, fate_by, kept_by, pending_by}
use Rattle.emv_ports.specs.Cut.{commit_of}
use Rattle.card_state.specs.Decisions.{Decided}
use Rattle.card_state.specs.Totals.{totals}
use Rattle.card_state.specs.declared.state.CardState.{CardState}
use Rattle.card_words.specs.DecisionText.{told_behind, told_in}
use Rattle.card_words.specs.declared.decision.Told.{Told}
use Rattle.emv_ports.specs.Cut.{names_commit}
use Rattle.emv_ports.specs.declared.tear.Tear.{Tear}
use Rattle.card_at_reader.specs.SincePower.{cut_since, told_cut, told_of_cut, told_since, told_unsure}

module _ (opening : CardState) where
  -- decisions one behind the other
  pub told_joined : (ds xs ys : List Decided) → told_behind opening ds (xs ++ ys) ≡ told_behind opening ds xs ++ told_behind opening (ds ++ xs) ys
  told_joined ds [] ys = ap (λ (l : List Decided). told_behind opening l ys) (sym (append-nil ds))
  told_joined ds (x ∷ xs) ys =
      ap (λ (ts : List Told). told_in (totals opening ds) x ∷ ts)
      (told_joined (ds ++ x ∷ []) xs ys ∙ ap (λ (l : List Decided). told_behind opening (ds ++ x ∷ []) xs ++ told_behind opening l ys) (append_assoc ds (x ∷ []) xs))

  told_count : (ds xs : List Decided) → length (told_behind opening ds xs) ≡ length xs
  told_count ds [] = refl
  told_count ds (x ∷ xs) = ap suc (told_count (ds ++ x ∷ []) xs)

  -- a command was answered
  pub told_further : (found taken made : List Decided)
      → told_since opening (record { found = found; kept = taken; unsure = None }) ++ told_behind opening (found ++ taken) made
      ≡ told_since opening (record { found = found; kept = taken ++ made; unsure = None })
  told_further found taken made =
      ap (λ (ts : List Told). ts ++ told_behind opening (found ++ taken) made) (append-nil (told_behind opening found taken))
      ∙ sym (told_joined found taken made)
      ∙ sym (append-nil (told_behind opening found (taken ++ made)))

  -- the cut one alone, by what becomes of it
  cut_here : (fate : Fate) (ds : List Decided) (d : Decided)
      → told_cut fate (told_in (totals opening ds) d)
      ≡ told_behind opening ds (kept_by fate [] (record { before = []; cut = d })) ++ told_unsure opening (ds ++ kept_by fate [] (record { before = []; cut = d })) (pending_by fate (record { before = []; cut = d }))
  cut_here Dropped ds d = refl
  cut_here Joined ds d = refl
  cut_here Pending ds d = ap (λ (l : List Decided). record (told_in (totals opening l) d) { sure = false } ∷ []) (sym (append-nil ds))

  kept_later : (fate : Fate) (d : Decided) (at : Cut) → kept_by fate [] (behind_one d at) ≡ d ∷ kept_by fate [] at
  kept_later Dropped d at = refl
  kept_later Joined d at = refl
  kept_later Pending d at = refl

  pending_later : (fate : Fate) (d : Decided) (at : Cut) → pending_by fate (behind_one d at) ≡ pending_by fate at
  pending_later Dropped d at = refl
  pending_later Joined d at = refl
  pending_later Pending d at = refl

  -- what is told of a cut that is found
  cut_told : (plan : Option Tear) (ds : List Decided) (made : ℕ) (new : List Decided) (at : Cut) → cut_of plan made new ≡ Some at
      → told_of_cut plan made (told_behind opening ds new)
      ≡ told_behind opening ds (kept_by (fate_by plan) [] at) ++ told_unsure opening (ds ++ kept_by (fate_by plan) [] at) (pending_by (fate_by plan) at)
  unfolding cut_of
  cut_told plan ds made [] at is = absurd (cc is)
  cut_told plan ds made (d ∷ later) at is =
      by (λ inner same. cut_told plan (ds ++ d ∷ []) (made + 1) later inner same) (names_commit plan (commit_of (made + 1))) is
    where
      behind : ((inner : Cut) → cut_of plan (made + 1) later ≡ Some inner
          → told_of_cut plan (made + 1) (told_behind opening (ds ++ d ∷ []) later)
          ≡ told_behind opening (ds ++ d ∷ []) (kept_by (fate_by plan) [] inner)
          ++ told_unsure opening ((ds ++ d ∷ []) ++ kept_by (fate_by plan) [] inner) (pending_by (fate_by plan) inner))
          → (inner : Option Cut) → cut_of plan (made + 1) later ≡ inner → option_map (behind_one d) inner ≡ Some at
          → told_in (totals opening ds) d ∷ told_of_cut plan (made + 1) (told_behind opening (ds ++ d ∷ []) later)
          ≡ told_behind opening ds (kept_by (fate_by plan) [] at) ++ told_unsure opening (ds ++ kept_by (fate_by plan) [] at) (pending_by (fate_by plan) at)
      behind rest None same found = absurd (cc found)
      behind rest (Some inner) same found =
          let equal : behind_one d inner ≡ at = cc in
          let kept : List Decided = kept_by (fate_by plan) [] inner in
          let whole : told_in (totals opening ds) d ∷ told_of_cut plan (made + 1) (told_behind opening (ds ++ d ∷ []) later)
          ≡ told_behind opening ds (d ∷ kept) ++ told_unsure opening (ds ++ (d ∷ kept)) (pending_by (fate_by plan) inner)
          = ap (λ (ts : List Told). told_in (totals opening ds) d ∷ ts)
          (rest inner same ∙ ap (λ (l : List Decided). told_behind opening (ds ++ d ∷ []) kept ++ told_unsure opening l (pending_by (fate_by plan) inner)) (append_assoc ds (d ∷ []) kept)) in
          whole
          ∙ ap (λ (l : List Decided). told_behind opening ds l ++ told_unsure opening (ds ++ l) (pending_by (fate_by plan) inner)) (sym (kept_later (fate_by plan) d inner))
          ∙ ap (λ (p : Option Decided). told_behind opening ds (kept_by (fate_by plan) [] (behind_one d inner)) ++ told_unsure opening (ds ++ kept_by (fate_by plan) [] (behind_one d inner)) p) (sym (pending_later (fate_by plan) d inner))
          ∙ ap (λ (c : Cut). told_behind opening ds (kept_by (fate_by plan) [] c) ++ told_unsure opening (ds ++ kept_by (fate_by plan) [] c) (pending_by (fate_by plan) c)) equal

      by : ((inner : Cut) → cut_of plan (made + 1) later ≡ Some inner
          → told_of_cut plan (made + 1) (told_behind opening (ds ++ d ∷ []) later)
          ≡ told_behind opening (ds ++ d ∷ []) (kept_by (fate_by plan) [] inner)
          ++ told_unsure opening ((ds ++ d ∷ []) ++ kept_by (fate_by plan) [] inner) (pending_by (fate_by plan) inner))
          → (here : Bool) → (if here then Some (record { before = []; cut = d }) else option_map (behind_one d) (cut_of plan (made + 1) later)) ≡ Some at
          → (if here then told_cut (fate_by plan) (told_in (totals opening ds) d) else told_in (totals opening ds) d ∷ told_of_cut plan (made + 1) (told_behind opening (ds ++ d ∷ []) later))
          ≡ told_behind opening ds (kept_by (fate_by plan) [] at) ++ told_unsure opening (ds ++ kept_by (fate_by plan) [] at) (pending_by (fate_by plan) at)
      by rest true found =
          let first : Cut = record { before = []; cut = d } in
          let equal : first ≡ at = cc in
          cut_here (fate_by plan) ds d
          ∙ ap (λ (c : Cut). told_behind opening ds (kept_by (fate_by plan) [] c) ++ told_unsure opening (ds ++ kept_by (fate_by plan) [] c) (pending_by (fate_by plan) c)) equal
      by rest false found = behind rest (cut_of plan (made + 1) later) refl found

  kept_joined : (fate : Fate) (taken : List Decided) (at : Cut) → taken ++ kept_by fate [] at ≡ kept_by fate taken at
  kept_joined Dropped taken at = refl
  kept_joined Joined taken at = sym (append_assoc taken at.before (at.cut ∷ []))
  kept_joined Pending taken at = refl

  -- a command was cut off
  pub told_of_loss : (plan : Option Tear) (found taken made : List Decided) (at : Cut) → cut_of plan (length taken) made ≡ Some at
      → told_since opening (record { found = found; kept = taken; unsure = None })
      ++ told_of_cut plan (length (told_since opening (record { found = found; kept = taken; unsure = None }))) (told_behind opening (found ++ taken) made)
      ≡ told_since opening (cut_since (fate_by plan) found taken at)
  told_of_loss plan found taken made at is =
      let before : List Told = told_behind opening found taken in
      let kept : List Decided = kept_by (fate_by plan) [] at in
      ap (λ (ts : List Told). ts ++ told_of_cut plan (length ts) (told_behind opening (found ++ taken) made)) (append-nil before)
      ∙ ap (λ n. before ++ told_of_cut plan n (told_behind opening (found ++ taken) made)) (told_count found taken)
      ∙ ap (λ (ts : List Told). before ++ ts) (cut_told plan (found ++ taken) (length taken) made at is)
      ∙ sym (append_assoc before (told_behind opening (found ++ taken) kept) (told_unsure opening ((found ++ taken) ++ kept) (pending_by (fate_by plan) at)))
      ∙ ap (λ (ts : List Told). ts ++ told_unsure opening ((found ++ taken) ++ kept) (pending_by (fate_by plan) at)) (sym (told_joined found taken kept))
      ∙ ap (λ (l : List Decided). told_behind opening found (taken ++ kept) ++ told_unsure opening l (pending_by (fate_by plan) at)) (append_assoc found taken kept)
      ∙ ap (λ (l : List Decided). told_behind opening found l ++ told_unsure opening (found ++ l) (pending_by (fate_by plan) at)) (kept_joined (fate_by plan) taken at)
