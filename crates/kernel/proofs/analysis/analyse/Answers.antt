use Rattle.std.proofs.Common.{◌≡◌, refl, ◌∙◌, ◌∷◌}
use Rattle.kernel.proofs.Analysing.{analysed}
use Rattle.kernel.proofs.analysis.analyse.Goals as goal
use Rattle.kernel.specs.Dialogue.{kind_wanted}
use Rattle.terminal_state.specs.StepResults.{HasAnalysed, analysed_by}
use Rattle.kernel.specs.Transactions.{transaction_of}

pub begin_first-requires : goal.begin_first-requires
begin_first-requires c = rw c.has_analysed.ensures.scripts c.requires

pub returns-clause-stands : goal.returns-clause-stands
returns-clause-stands c = λ steps_done log rest begins.
    let transaction = transaction_of c.args.transaction.now in
    let asked : c.kind_wanted-asked.result ≡ kind_wanted transaction steps_done =
    c.kind_wanted-asked.ensures ∙ rw begins.tied refl in
    c.begin_first.ensures.stands (HasAnalysed (analysed_by transaction.row c.kind_wanted-asked.result) ∷ steps_done) log rest
    (analysed transaction steps_done c.kind_wanted-asked.result log rest c.args.table.now _ begins asked (c.has_analysed.ensures.steps_done steps_done begins.tied))
