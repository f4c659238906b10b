use Rattle.std.proofs.Common.{◌≡◌, refl, sym, ap, ◌∷◌, ◌+◌, ℕ, List, length, drop, arith, rules}
use Rattle.emv_dict.specs.declared.ending.Step.TheVariants as step
use Rattle.kernel.proofs.Scripting.{behind_begins, behind_end, left_next}
use Rattle.kernel.proofs.issuer_scripts.+behind.Goals as goal
use Rattle.kernel.specs.Dialogue.{scripts_behind, left_script}
use Rattle.kernel.specs.Rank.{bytes_in_templates}
use Rattle.script_run.proofs.Bounds.{drop_some, drop_none}
use Rattle.script_run.specs.Ran.{template_ran}
use Rattle.terminal_state.specs.StepResults.{HasRunBehind}
use Rattle.terminal_state.specs.Scripts.{templates_of_tag}

pub behind_next-returns-in-Done-clause-stands : goal.behind_next-returns-in-Done-clause-stands
behind_next-returns-in-Done-clause-stands t c = λ transaction steps_done log course rest begins leads.
    c.run_behind.ensures.stands transaction (HasRunBehind c.in-Done.found ∷ steps_done) log rest
    (left_next c.args.table.now _ transaction.card (left_script c.args.ending (drop c.args.index (templates_of_tag 0x72 c.args.table.now.reply.scripts)) steps_done) step.Script steps_done (HasRunBehind c.in-Done.found ∷ steps_done) log course
    (λ found. scripts_behind c.args.ending (drop c.args.index (templates_of_tag 0x72 c.args.table.now.reply.scripts)) (HasRunBehind found ∷ steps_done))
    c.in-Done.found rest (c.has_run_behind.ensures.steps_done steps_done begins.tied) refl begins (rw c.in-Done.is at leads))

pub run_behind-returns-in-Some-clause-stands : goal.run_behind-returns-in-Some-clause-stands
run_behind-returns-in-Some-clause-stands t c = λ transaction steps_done log rest begins.
    c.behind_next.ensures.stands transaction steps_done log (template_ran c.in-Some.template.now) rest
    (behind_begins c.args.table.now transaction.card c.args.ending _ (drop (c.args.index + 1) (templates_of_tag 0x72 c.args.table.now.reply.scripts)) c.in-Some.template.now steps_done log rest
    (drop_some _ c.args.index c.in-Some.template.now (sym c.in-Some.ensures.template)) begins)
    c.begin-next.ensures.leads

pub run_behind-returns-in-None-clause-stands : goal.run_behind-returns-in-None-clause-stands
run_behind-returns-in-None-clause-stands t c = λ transaction steps_done log rest begins.
    behind_end c.args.table.now transaction c.args.ending _ steps_done log rest (drop_none _ c.args.index (sym c.in-None.ensures.template)) begins

pub run_behind-returns-in-Some-clause-step : goal.run_behind-returns-in-Some-clause-step
run_behind-returns-in-Some-clause-step t c =
    let here : bytes_in_templates (drop c.args.index (templates_of_tag 0x72 c.args.table.now.reply.scripts)) ≡ 1 + length c.in-Some.template.now + bytes_in_templates (drop (c.args.index + 1) (templates_of_tag 0x72 c.args.table.now.reply.scripts)) =
    ap (λ (all : List (List ℕ)). bytes_in_templates all) (drop_some _ c.args.index c.in-Some.template.now (sym c.in-Some.ensures.template)) in
    let few = c.begin-next.ensures.few in
    let left = c.behind_next.ensures.step.nearer in
    record { same = search rules; nearer = omega arith; room = search rules; asked = search rules }
