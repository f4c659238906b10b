use Rattle.std.proofs.Common.{sym}
use Rattle.kernel.proofs.Analysing.{first_filled, first_unfilled}
use Rattle.kernel.proofs.analysis.begin_first.Goals as goal
use Rattle.kernel.specs.Transactions.{transaction_of}

pub returns-then-ask_generate-clause-stands : goal.returns-then-ask_generate-clause-stands
returns-then-ask_generate-clause-stands c = λ steps_done log rest begins.
    let transaction = transaction_of c.args.transaction.now in
    let asks = c.if-ask_generate.ensures.asked in
    first_filled transaction steps_done c.args.asked log rest c.args.table.now _ asks.0 begins (rw (sym begins.tied) asks.1) asks.2 c.if-ask_generate.ensures.state_so_far

pub returns-else-ask_generate-clause-stands : goal.returns-else-ask_generate-clause-stands
returns-else-ask_generate-clause-stands c = λ steps_done log rest begins.
    let transaction = transaction_of c.args.transaction.now in
    first_unfilled transaction steps_done c.args.asked log rest c.args.table.now _ begins
    (rw (sym begins.tied) c.if-ask_generate.ensures.asked) c.if-ask_generate.ensures.state_so_far
