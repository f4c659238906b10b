use Rattle.std.proofs.Common.{◌∙◌, Option, None, ap}
use Rattle.kernel.specs.Dialogue.{dialogue}
use Rattle.kernel.specs.Kernel.{outset_in}
use Rattle.object_lists.specs.CardRead.{ReadCard}
use Rattle.terminal_state.specs.StepResults.{StateSoFarData, latest, sets_card}
use Rattle.trace_check.specs.LastQuestion.{last_question, question_behind}
use Rattle.trace_check.proofs.question.last_question.Goals as goal

pub returns : goal.returns
unfolding question_behind
returns c replies stands =
    c.question_in.ensures
    ∙ ap (λ (card : Option ReadCard). last_question c.args.terminal_type card c.state_so_far.result.now) (c.data.ensures.told replies stands)
    ∙ ap (λ (state : StateSoFarData). last_question c.args.terminal_type (latest sets_card None (dialogue (outset_in c.args.kernel.now) replies).steps_done) state) (c.state_so_far.ensures.told replies stands)
