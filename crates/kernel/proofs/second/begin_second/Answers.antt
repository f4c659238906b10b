use Rattle.std.proofs.Common.{sym}
use Rattle.kernel.proofs.Deciding.{second_filled, second_unfilled}
use Rattle.kernel.proofs.second.begin_second.Goals as goal
use Rattle.kernel.specs.Stages.{behind_if}
use Rattle.kernel.specs.Transactions.{transaction_of}

pub returns-else-ask_generate-clause-stands : goal.returns-else-ask_generate-clause-stands
returns-else-ask_generate-clause-stands c = λ steps_done log rest begins.
    second_unfilled c.args.table.now _ (transaction_of c.args.transaction.now) steps_done log rest c.args.state.outcome c.args.state.asked
    (behind_if c.args.state.outcome c.args.table.now.reply.scripts) begins
    (rw (sym begins.tied) c.if-ask_generate.ensures.asked) c.if-ask_generate.ensures.state_so_far

pub returns-then-ask_generate-clause-stands : goal.returns-then-ask_generate-clause-stands
returns-then-ask_generate-clause-stands c = λ steps_done log rest begins.
    let asks = c.if-ask_generate.ensures.asked in
    second_filled c.args.table.now _ (transaction_of c.args.transaction.now) steps_done log rest c.args.state asks.0 begins
    (rw (sym begins.tied) asks.1) asks.2 c.if-ask_generate.ensures.state_so_far c.if-ask_generate.ensures.reply
