use Rattle.std.proofs.Common.{[], ◌∷◌}
use Rattle.kernel.proofs.Analysing.{in_transaction}
use Rattle.kernel.proofs.verification.begin_trading.Goals as goal
use Rattle.terminal_state.specs.StepResults.{HasRead, HasRestricted}
use Rattle.kernel.specs.Transactions.{transaction_of}

pub returns-clause-stands : goal.returns-clause-stands
returns-clause-stands c = λ rest passed.
    let transaction = transaction_of c.args.transaction.now in
    c.begin_verify.ensures.stands (HasRestricted c.restrict-bits.result.0 ∷ HasRead c.args.transaction.now.card.now ∷ []) rest
    (in_transaction transaction c.restrict-bits.result.0 c.args.transaction.now.log.now rest _ passed c.restrict-bits.ensures.bits
    (c.has_restricted.ensures.steps_done (HasRead c.args.transaction.now.card.now ∷ []) (c.has_read.ensures.steps_done [] c.args.transaction.now.card.now c.requires.state_so_far)))
