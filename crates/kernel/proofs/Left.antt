-- The candidates that are left, as selection goes through them.
use Rattle.std.proofs.Common.{◌≡◌, refl, sym, ◌∙◌, true, false, List, [], ◌∷◌, Some, None}
use Rattle.app_select.specs.Candidates.{CandidateData}
use Rattle.app_select.specs.Said.{SaidData, Unreadable, Blocked, Named, Nothing, select_said}
use Rattle.app_select.specs.Selecting.{SelectedData, final_by, first_selected, or_else}
use Rattle.emv_dict.specs.Progress.{Stopped, Done}
use Rattle.emv_dict.specs.declared.ending.Cause.TheVariants.{Answer}
use Rattle.emv_dict.specs.declared.ending.Step.TheVariants as step
use Rattle.emv_dict.specs.declared.purchase.Logged.{Logged}
use Rattle.kernel.proofs.Courses.{done, stopped}
use Rattle.kernel.specs.StepsInTurn.{card_step, cut_off}
use Rattle.kernel.specs.Dialogue.{initiation_or, candidates_left, selected_then}
use Rattle.kernel.specs.Reply.{Reply, CardSaid, CardGone, HostSaid, HostSilent}
use Rattle.terminal_state.specs.Terminal.{Outset}

-- the answer to the final SELECT of the first one
answered : (outset : Outset) → (candidate : CandidateData) → (left : List CandidateData) → ((log : List Logged) → (replies : List Reply) → card_step (cut_off []) step.Select step.Select [] (first_selected left) (selected_then outset) log replies ≡ candidates_left outset left log replies) → (said : SaidData) → (log : List Logged) → (replies : List Reply) → card_step (cut_off []) step.Select step.Select [] (λ later. or_else (final_by candidate left said later) (first_selected left)) (selected_then outset) log replies ≡ card_step (cut_off []) step.Select step.Select [] (λ later. final_by candidate left said later) (initiation_or outset (candidates_left outset left)) log replies
answered outset candidate left others Unreadable log replies =
    stopped (cut_off []) step.Select step.Select [] (λ later. Stopped Answer) (selected_then outset) Answer (λ later. refl) log replies
    ∙ sym (stopped (cut_off []) step.Select step.Select [] (λ later. Stopped Answer) (initiation_or outset (candidates_left outset left)) Answer (λ later. refl) log replies)
answered outset candidate left others Blocked log replies =
    others log replies
    ∙ sym (done (cut_off []) step.Select step.Select [] (λ later. Done None later) (initiation_or outset (candidates_left outset left)) None (λ later. refl) log replies)
answered outset candidate left others (Named true fci) log replies =
    let selected : SelectedData = record { row = candidate.row; pdol = fci.pdol; left = left } in
    done (cut_off []) step.Select step.Select [] (λ later. Done selected later) (selected_then outset) selected (λ later. refl) log replies
    ∙ sym (done (cut_off []) step.Select step.Select [] (λ later. Done (Some selected) later) (initiation_or outset (candidates_left outset left)) (Some selected) (λ later. refl) log replies)
answered outset candidate left others (Named false fci) log replies =
    others log replies
    ∙ sym (done (cut_off []) step.Select step.Select [] (λ later. Done None later) (initiation_or outset (candidates_left outset left)) None (λ later. refl) log replies)
answered outset candidate left others Nothing log replies =
    others log replies
    ∙ sym (done (cut_off []) step.Select step.Select [] (λ later. Done None later) (initiation_or outset (candidates_left outset left)) None (λ later. refl) log replies)

-- they are the candidates that selection opens
pub left_is_opening : (outset : Outset) → (candidates : List CandidateData) → (log : List Logged) → (replies : List Reply) → card_step (cut_off []) step.Select step.Select [] (first_selected candidates) (selected_then outset) log replies ≡ candidates_left outset candidates log replies
unfolding candidates_left card_step
left_is_opening outset [] log [] = refl
left_is_opening outset [] log (CardSaid answer now ∷ replies) = refl
left_is_opening outset [] log (CardGone ∷ replies) = refl
left_is_opening outset [] log (HostSaid reply ∷ replies) = refl
left_is_opening outset [] log (HostSilent ∷ replies) = refl
left_is_opening outset (candidate ∷ left) log [] = refl
left_is_opening outset (candidate ∷ left) log (CardGone ∷ replies) = refl
left_is_opening outset (candidate ∷ left) log (HostSaid reply ∷ replies) = refl
left_is_opening outset (candidate ∷ left) log (HostSilent ∷ replies) = refl
left_is_opening outset (candidate ∷ left) log (CardSaid answer now ∷ replies) =
    answered outset candidate left (left_is_opening outset left) (select_said answer) now replies
