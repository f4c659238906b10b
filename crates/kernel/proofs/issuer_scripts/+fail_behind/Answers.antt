use Rattle.std.proofs.Common.{sym, ap, ◌∙◌, List, ℕ}
use Rattle.script_run.proofs.Bounds.{drop_none}
use Rattle.kernel.proofs.issuer_scripts.+fail_behind.Goals as goal
use Rattle.kernel.specs.Dialogue.{all_failed}
use Rattle.terminal_state.specs.StepResults.{state_so_far}

pub returns-in-None-clause-steps_done : goal.returns-in-None-clause-steps_done
returns-in-None-clause-steps_done t c = λ steps_done tied. tied ∙ ap (λ (left : List (List ℕ)). state_so_far (all_failed left steps_done)) (sym (drop_none _ c.args.index (sym c.in-None.ensures.template)))
