use Rattle.std.proofs.Common.{◌≡◌, refl, ◌∷◌, ◌∙◌}
use Rattle.kernel.proofs.Deciding.{unabled}
use Rattle.kernel.proofs.online.be_unable.Goals as goal
use Rattle.kernel.specs.Dialogue.{kind_unable}
use Rattle.kernel.specs.Transactions.{transaction_of}
use Rattle.terminal_state.specs.StepResults.{WasUnable}

pub returns-clause-stands : goal.returns-clause-stands
returns-clause-stands c = λ steps_done log rest begins.
    let transaction = transaction_of c.args.transaction.now in
    let asked : c.kind_unable-asked.result ≡ kind_unable transaction steps_done = c.kind_unable-asked.ensures ∙ rw begins.tied refl in
    c.begin_second.ensures.stands (WasUnable c.args.request c.kind_unable-asked.result ∷ steps_done) log rest
    (unabled c.args.table.now _ transaction steps_done log rest c.args.request c.kind_unable-asked.result begins asked (c.was_unable.ensures.steps_done steps_done begins.tied))
