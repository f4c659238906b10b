use Rattle.std.proofs.Common.{◌≡◌, ℕ, ◌+◌, ◌++◌, [], ◌∷◌, List, length, sym, ap, ◌∙◌, arith, append-nil}
use Rattle.emv_dict.specs.Progress.{Progress, Done}
use Rattle.script_run.specs.Ran.{failed_at, ran}
use Rattle.script_run.proofs.Stages.{ran-behind, ran-sent, ran-failed, ran-unsent, ran-end}
use Rattle.script_run.proofs.laws.commands_are_asked_in_turn.Goals as goal

pub returns-clause-asked : goal.returns-clause-asked
returns-clause-asked c identifier before behind answers command on is =
    ap (λ (given : List (List ℕ)). ran identifier 1 (before ++ command ∷ behind) given) (sym (append-nil answers))
    ∙ ran-behind identifier 1 before (command ∷ behind) answers [] on ∙ ran-sent identifier (1 + length before) command behind [] is

pub returns-clause-failed : goal.returns-clause-failed
returns-clause-failed c identifier before behind answers rest command answer on is off =
    let number : 1 + length before ≡ length before + 1 = omega arith in
    ran-behind identifier 1 before (command ∷ behind) answers (answer ∷ rest) on
    ∙ ran-failed identifier (1 + length before) command answer behind rest is off
    ∙ ap (λ (n : ℕ). let p : Progress (List ℕ) = Done (failed_at identifier n) rest in p) number

pub returns-clause-not_sent : goal.returns-clause-not_sent
returns-clause-not_sent c identifier before behind answers rest command on is =
    let number : 1 + length before ≡ length before + 1 = omega arith in
    ran-behind identifier 1 before (command ∷ behind) answers rest on
    ∙ ran-unsent identifier (1 + length before) command behind rest is
    ∙ ap (λ (n : ℕ). let p : Progress (List ℕ) = Done (failed_at identifier n) rest in p) number

pub returns-clause-all : goal.returns-clause-all
returns-clause-all c identifier commands answers rest on =
    ap (λ (given : List (List ℕ)). ran identifier 1 given (answers ++ rest)) (sym (append-nil commands))
    ∙ ran-behind identifier 1 commands [] answers rest on ∙ ran-end identifier (1 + length commands) rest
