use Rattle.std.proofs.Common.{refl, [], ◌∷◌}
use Rattle.cvm_list.specs.Waiting.{verifying_rest}
use Rattle.emv_dict.specs.declared.ending.Step.TheVariants as step
use Rattle.kernel.proofs.NextOf.{verify_shifted}
use Rattle.kernel.proofs.Taking.{begins_taken}
use Rattle.kernel.proofs.verification.on_verify.Goals as goal
use Rattle.kernel.specs.Dialogue.{risk}
use Rattle.terminal_state.specs.StepResults.{HasVerified}
use Rattle.kernel.specs.Transactions.{transaction_of}

pub returns-clause-stands : goal.returns-clause-stands
returns-clause-stands c = λ before rest stands.
    let transaction = transaction_of c.args.transaction.now in
    c.verify_next.ensures.stands stands.steps_done (λ later. verifying_rest c.args.verifying (c.args.reply.now ∷ later)) _
    (begins_taken c.args.table.now c.args.transaction.now.card.now step.Verify stands.steps_done before c.args.transaction.now.log.now (verifying_rest c.args.verifying) (λ verified. risk transaction (HasVerified verified ∷ stands.steps_done))
    c.args.table.now.command.items rest stands.passed stands.tied stands.read stands.shows c.args.reply.now)
    (verify_shifted (verifying_rest c.args.verifying) c.args.reply.now _ (c.take-next.ensures.leads (verifying_rest c.args.verifying) [] (λ later. refl)))
