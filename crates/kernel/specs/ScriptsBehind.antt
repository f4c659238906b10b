-- The issuer's scripts behind the second cryptogram: the templates 72 (EMV 4.3 Book 3 section 10.10).
use Rattle.std.specs.Prelude.{ℕ, List, [], ◌∷◌}
use Rattle.emv_dict.specs.Progress.{Progress}
use Rattle.emv_dict.specs.declared.ending.Ending.{Ending}
use Rattle.emv_dict.specs.declared.ending.Step.{Step}
use Rattle.emv_dict.specs.declared.ending.Step.TheVariants as step
use Rattle.kernel.specs.StepsInTurn.{Standing, Rest, stands, over, by_progress, card_step}
use Rattle.kernel.specs.Reply.{Over}
use Rattle.script_run.specs.Ran.{template_ran, no_script}
use Rattle.terminal_state.specs.StepResults.{StepResult}
use Rattle.terminal_state.specs.StepResults as step_result

-- a card that is gone fails the script that runs and each one behind it, and the ending stands
abbrev pub all_failed : List (List ℕ) → List StepResult → List StepResult
all_failed [] steps_done = steps_done
all_failed (template ∷ others) steps_done = all_failed others (step_result.HasRunBehind no_script ∷ steps_done)

-- the script's result where the command that the card left failed, as one whose answer can't be read
abbrev pub left_script : Ending → List (List ℕ) → List StepResult → Step → (List (List ℕ) → Progress (List ℕ)) → Standing StepResult
left_script ending others steps_done cut course =
    by_progress (λ command. stands steps_done (Over ending)) (λ cause. stands steps_done (Over ending))
    (λ result. stands (all_failed others (step_result.HasRunBehind result ∷ steps_done)) (Over ending)) (course ([] ∷ []))

-- the templates 72, behind the second cryptogram
unfoldable pub scripts_behind : Ending → List (List ℕ) → List StepResult → Rest StepResult
scripts_behind ending [] steps_done = over steps_done ending
scripts_behind ending (template ∷ others) steps_done =
    card_step (left_script ending others steps_done) step.Script step.Script steps_done (template_ran template)
    (λ result. scripts_behind ending others (step_result.HasRunBehind result ∷ steps_done))
