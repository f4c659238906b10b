use Rattle.std.proofs.Common.{◌≡◌, refl, sym, [], ◌∷◌, drop, Some}
use Rattle.kernel.proofs.Hearing.{script_left}
use Rattle.kernel.proofs.issuer_scripts.gone_behind.Goals as goal
use Rattle.kernel.specs.Dialogue.{scripts_behind}
use Rattle.script_run.specs.Ran.{running_rest}
use Rattle.terminal_state.specs.StepResults.{HasRunBehind}
use Rattle.terminal_state.specs.Scripts.{templates_of_tag}

pub returns-clause-stands : goal.returns-clause-stands
returns-clause-stands c = λ transaction log rest stands.
    let is : c.args.table.now.running ≡ Some c.in-Some.running = sym c.in-Some.ensures.value in
    script_left _ transaction c.args.ending (drop c.args.state.next (templates_of_tag 0x72 c.args.table.now.reply.scripts)) stands.steps_done log (running_rest c.in-Some.running)
    (λ found. scripts_behind c.args.ending (drop c.args.state.next (templates_of_tag 0x72 c.args.table.now.reply.scripts)) (HasRunBehind found ∷ stands.steps_done))
    c.args.table.now.command.items c.gone-found.result rest (rw is at stands.passed) stands.read (rw is at stands.shows)
    (c.gone-found.ensures.leads (running_rest c.in-Some.running) [] (λ later. refl) [])
    (c.fail_behind.ensures.steps_done (HasRunBehind c.gone-found.result ∷ stands.steps_done) (c.has_run_behind.ensures.steps_done stands.steps_done stands.tied))
