use Rattle.std.proofs.Common.{◌≡◌, refl, sym, [], ◌∷◌, drop, Some}
use Rattle.emv_dict.specs.declared.ending.Step.TheVariants as step
use Rattle.kernel.proofs.Scripting.{left_taken, run_shifted}
use Rattle.kernel.proofs.issuer_scripts.on_script_behind.Goals as goal
use Rattle.kernel.specs.Dialogue.{scripts_behind, left_script}
use Rattle.script_run.specs.Ran.{running_rest}
use Rattle.terminal_state.specs.StepResults.{HasRunBehind}
use Rattle.terminal_state.specs.Scripts.{templates_of_tag}

pub returns-clause-stands : goal.returns-clause-stands
returns-clause-stands c = λ transaction before now rest stands.
    let is : c.args.table.now.running ≡ Some c.in-Some.running = sym c.in-Some.ensures.value in
    c.behind_next.ensures.stands transaction stands.steps_done now (λ later. running_rest c.in-Some.running (c.args.reply.now ∷ later)) _
    (left_taken _ transaction.card (left_script c.args.ending (drop c.args.state.next (templates_of_tag 0x72 c.args.table.now.reply.scripts)) stands.steps_done) step.Script stands.steps_done before now (running_rest c.in-Some.running)
    (λ found. scripts_behind c.args.ending (drop c.args.state.next (templates_of_tag 0x72 c.args.table.now.reply.scripts)) (HasRunBehind found ∷ stands.steps_done))
    c.args.table.now.command.items rest (rw is at stands.passed) stands.tied stands.read (rw is at stands.shows) c.args.reply.now)
    (run_shifted (running_rest c.in-Some.running) c.args.reply.now _ (c.take-gone_on.ensures.leads (running_rest c.in-Some.running) [] (λ later. refl)))
