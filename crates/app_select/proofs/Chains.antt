-- The steps, chained.
use Rattle.std.proofs.Common.{◌≡◌, ℕ, Bool, true, false, List, [], ◌∷◌, Some, None, refl, ap, ◌∙◌}
use Rattle.std.specs.declared.option.Option.{Option}
use Rattle.app_select.specs.Candidates.{CandidateData, candidates}
use Rattle.app_select.specs.Chosen.{Follow, then_follow, first_through, chosen, followed}
use Rattle.app_select.specs.Listed.{listed, first_fault, candidates_in}
use Rattle.app_select.specs.Said.{SaidData, Unreadable, Blocked, Named, Nothing, select_said}
use Rattle.app_select.specs.Selecting.{SelectedData, final_by, or_else, first_selected, once_listed, stopped_by, listing, selecting}
use Rattle.emv_dict.specs.Progress.{Progress}
use Rattle.emv_dict.specs.declared.ending.Cause.{Cause}
use Rattle.emv_dict.specs.declared.purchase.AidRow.{AidRow}

module _ {A : Type 0} (follow : Follow A) where
  -- behind an answer to the final SELECT, where the candidates behind do so
  behind_final : (candidate : CandidateData) (left : List CandidateData) (rest : List (List ℕ)) (said : SaidData) → followed follow (first_selected left rest) ≡ first_through follow left rest
      → followed follow (or_else (final_by candidate left said rest) (first_selected left)) ≡ or_else (then_follow follow (final_by candidate left said rest)) (first_through follow left)
  behind_final candidate left rest Unreadable later = refl
  behind_final candidate left rest Blocked later = later
  behind_final candidate left rest (Named true fci) later = refl
  behind_final candidate left rest (Named false fci) later = later
  behind_final candidate left rest Nothing later = later

  pub first_selected-followed : (among : List CandidateData) (answers : List (List ℕ)) → followed follow (first_selected among answers) ≡ first_through follow among answers
  first_selected-followed [] answers = refl
  first_selected-followed (candidate ∷ left) [] = refl
  first_selected-followed (candidate ∷ left) (answer ∷ rest) = behind_final candidate left rest (select_said answer) (first_selected-followed left rest)

  once_listed-followed : (rows : List AidRow) (turn : ℕ) (next : Progress SelectedData) → followed follow (once_listed rows turn next) ≡ once_listed rows turn (followed follow next)
  once_listed-followed [] turn next = refl
  once_listed-followed (row ∷ rows) turn next = refl

  stopped_by-followed : (fault : Option Cause) (next : Progress SelectedData) → followed follow (stopped_by fault next) ≡ stopped_by fault (followed follow next)
  stopped_by-followed None next = refl
  stopped_by-followed (Some cause) next = refl

  pub selecting-followed : (rows : List AidRow) (confirm : Bool) (answers : List (List ℕ)) → followed follow (selecting rows confirm answers) ≡ chosen follow rows confirm answers
  unfolding listing
  selecting-followed rows confirm answers =
      let list = listed rows 0 answers in
      let among = candidates confirm (candidates_in list.answers) in
      stopped_by-followed (first_fault list.answers) (once_listed list.left list.turn (first_selected among list.rest))
      ∙ ap (λ (next : Progress (SelectedData × A)). stopped_by (first_fault list.answers) next)
      (once_listed-followed list.left list.turn (first_selected among list.rest)
      ∙ ap (λ (next : Progress (SelectedData × A)). once_listed list.left list.turn next) (first_selected-followed among list.rest))
