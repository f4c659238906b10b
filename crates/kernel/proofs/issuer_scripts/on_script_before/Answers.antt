use Rattle.std.proofs.Common.{◌≡◌, refl, sym, [], ◌∷◌, drop, Some}
use Rattle.emv_dict.specs.declared.ending.Step.TheVariants as step
use Rattle.kernel.proofs.Scripting.{left_taken, run_shifted}
use Rattle.kernel.proofs.issuer_scripts.on_script_before.Goals as goal
use Rattle.kernel.specs.StepsInTurn.{cut_off}
use Rattle.kernel.specs.Dialogue.{scripts_before}
use Rattle.kernel.specs.Transactions.{transaction_of}
use Rattle.script_run.specs.Ran.{running_rest}
use Rattle.terminal_state.specs.StepResults.{HasRunBefore}
use Rattle.terminal_state.specs.Scripts.{templates_of_tag}

pub returns-clause-stands : goal.returns-clause-stands
returns-clause-stands c = λ before now rest stands.
    let is : c.args.table.now.running ≡ Some c.in-Some.running = sym c.in-Some.ensures.value in
    c.before_next.ensures.stands stands.steps_done now (λ later. running_rest c.in-Some.running (c.args.reply.now ∷ later)) _
    (left_taken _ c.args.transaction.now.card.now (cut_off stands.steps_done) step.Script stands.steps_done before now (running_rest c.in-Some.running)
    (λ found. scripts_before (transaction_of c.args.transaction.now) c.args.table.now.reply (drop c.args.state.next (templates_of_tag 0x71 c.args.table.now.reply.scripts)) (HasRunBefore found ∷ stands.steps_done))
    c.args.table.now.command.items rest (rw is at stands.passed) stands.tied stands.read (rw is at stands.shows) c.args.reply.now)
    (run_shifted (running_rest c.in-Some.running) c.args.reply.now _ (c.take-gone_on.ensures.leads (running_rest c.in-Some.running) [] (λ later. refl)))
