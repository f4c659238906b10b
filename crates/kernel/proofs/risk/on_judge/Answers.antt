use Rattle.std.proofs.Common.{refl, [], ◌∷◌}
use Rattle.emv_dict.specs.declared.ending.Step.TheVariants as step
use Rattle.kernel.proofs.NextOf.{judge_shifted}
use Rattle.kernel.proofs.Taking.{begins_taken}
use Rattle.kernel.proofs.risk.on_judge.Goals as goal
use Rattle.kernel.specs.Dialogue.{analysis}
use Rattle.risk_mgmt.specs.Asked.{judging_rest}
use Rattle.terminal_state.specs.StepResults.{HasJudged}
use Rattle.kernel.specs.Transactions.{transaction_of}

pub returns-clause-stands : goal.returns-clause-stands
returns-clause-stands c = λ before now rest stands.
    let transaction = transaction_of c.args.transaction.now in
    c.judge_next.ensures.stands stands.steps_done now (λ later. judging_rest c.args.judging (c.args.reply.now ∷ later)) _
    (begins_taken c.args.table.now c.args.transaction.now.card.now step.Risk stands.steps_done before now (judging_rest c.args.judging) (λ judged. analysis transaction (HasJudged judged ∷ stands.steps_done))
    c.args.table.now.command.items rest stands.passed stands.tied stands.read stands.shows c.args.reply.now)
    (judge_shifted (judging_rest c.args.judging) c.args.reply.now _ (c.take-next.ensures.leads (judging_rest c.args.judging) [] (λ later. refl)))
