-- The chosen application (EMV 4.3 Book 1 section 12 and Book 3 section 10.1): the first candidate whose
-- final SELECT and whose GET PROCESSING OPTIONS went through.
use Rattle.std.specs.Prelude.{ℕ, List, [], ◌∷◌, Bool, Option, Some, None, option_map}
use Rattle.app_select.specs.Candidates.{CandidateData, candidates}
use Rattle.app_select.specs.Listed.{listed, first_fault, candidates_in}
use Rattle.app_select.specs.Selecting.{SelectedData, final, or_else, once_listed, stopped_by}
use Rattle.emv_dict.specs.Progress.{Progress, Wants, Stopped, Done}
use Rattle.emv_dict.specs.declared.ending.Cause.TheVariants.{NoCandidate}
use Rattle.emv_dict.specs.declared.purchase.AidRow.{AidRow}

-- what the step behind selection makes of the later answers; none where the application is refused
abbrev pub Follow : Type 0 → Type 0
Follow A = SelectedData → List (List ℕ) → Progress (Option A)

-- what follows, with the application that is selected
abbrev pub with_selected : {A : Type 0} → SelectedData → Progress (Option A) → Progress (Option (SelectedData × A))
with_selected selected (Wants command) = Wants command
with_selected selected (Stopped cause) = Stopped cause
with_selected selected (Done found rest) = Done (option_map (λ value. (selected, value)) found) rest

-- the final SELECT of a candidate, and what follows it
abbrev pub then_follow : {A : Type 0} → Follow A → Progress (Option SelectedData) → Progress (Option (SelectedData × A))
then_follow follow (Wants command) = Wants command
then_follow follow (Stopped cause) = Stopped cause
then_follow follow (Done (Some selected) rest) = with_selected selected (follow selected rest)
then_follow follow (Done None rest) = Done None rest

-- the first of these candidates with which both go through
abbrev pub first_through : {A : Type 0} → Follow A → List CandidateData → List (List ℕ) → Progress (SelectedData × A)
first_through follow [] answers = Stopped NoCandidate
first_through follow (candidate ∷ left) answers = or_else (then_follow follow (final candidate left answers)) (first_through follow left)

-- the application chosen among the candidates that the list's answers give, and what follows it
abbrev pub chosen : {A : Type 0} → Follow A → List AidRow → Bool → List (List ℕ) → Progress (SelectedData × A)
chosen follow rows confirm answers =
    let list = listed rows 0 answers in
    stopped_by (first_fault list.answers)
    (once_listed list.left list.turn (first_through follow (candidates confirm (candidates_in list.answers)) list.rest))

-- a selection, and what follows it; where that refuses the application, the candidates behind it
abbrev pub followed : {A : Type 0} → Follow A → Progress SelectedData → Progress (SelectedData × A)
followed follow (Wants command) = Wants command
followed follow (Stopped cause) = Stopped cause
followed follow (Done selected rest) = or_else (with_selected selected (follow selected rest)) (first_through follow selected.left)
