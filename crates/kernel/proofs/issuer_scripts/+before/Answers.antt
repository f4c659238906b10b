use Rattle.std.proofs.Common.{◌≡◌, refl, sym, ap, ◌∷◌, ◌+◌, ℕ, List, length, drop, arith, rules}
use Rattle.emv_dict.specs.declared.ending.Step.TheVariants as step
use Rattle.kernel.proofs.Scripting.{script_begins, scripts_end, left_next}
use Rattle.kernel.proofs.issuer_scripts.+before.Goals as goal
use Rattle.kernel.specs.StepsInTurn.{cut_off}
use Rattle.kernel.specs.Dialogue.{scripts_before}
use Rattle.kernel.specs.Rank.{bytes_in_templates}
use Rattle.kernel.specs.Transactions.{transaction_of}
use Rattle.script_run.proofs.Bounds.{drop_some, drop_none}
use Rattle.script_run.specs.Ran.{template_ran}
use Rattle.terminal_state.specs.StepResults.{HasRunBefore}
use Rattle.terminal_state.specs.Scripts.{templates_of_tag}

pub before_next-returns-in-Done-clause-stands : goal.before_next-returns-in-Done-clause-stands
before_next-returns-in-Done-clause-stands t c = λ steps_done log course rest begins leads.
    c.run_before.ensures.stands (HasRunBefore c.in-Done.found ∷ steps_done) log rest
    (left_next c.args.table.now _ c.args.transaction.now.card.now (cut_off steps_done) step.Script steps_done (HasRunBefore c.in-Done.found ∷ steps_done) log course
    (λ found. scripts_before (transaction_of c.args.transaction.now) c.args.table.now.reply (drop c.args.index (templates_of_tag 0x71 c.args.table.now.reply.scripts)) (HasRunBefore found ∷ steps_done))
    c.in-Done.found rest (c.has_run_before.ensures.steps_done steps_done begins.tied) refl begins (rw c.in-Done.is at leads))

pub run_before-returns-in-Some-clause-stands : goal.run_before-returns-in-Some-clause-stands
run_before-returns-in-Some-clause-stands t c = λ steps_done log rest begins.
    c.before_next.ensures.stands steps_done log (template_ran c.in-Some.template.now) rest
    (script_begins c.args.table.now (transaction_of c.args.transaction.now) c.args.table.now.reply _ (drop (c.args.index + 1) (templates_of_tag 0x71 c.args.table.now.reply.scripts)) c.in-Some.template.now steps_done log rest
    (drop_some _ c.args.index c.in-Some.template.now (sym c.in-Some.ensures.template)) begins)
    c.begin-next.ensures.leads

pub run_before-returns-in-None-clause-stands : goal.run_before-returns-in-None-clause-stands
run_before-returns-in-None-clause-stands t c = λ steps_done log rest begins.
    c.begin_second.ensures.stands steps_done log rest
    (scripts_end c.args.table.now (transaction_of c.args.transaction.now) c.args.table.now.reply c.kind_for-asked.result _ steps_done log rest
    (drop_none _ c.args.index (sym c.in-None.ensures.template)) c.kind_for-asked.ensures begins)

pub run_before-returns-in-Some-clause-step : goal.run_before-returns-in-Some-clause-step
run_before-returns-in-Some-clause-step t c =
    let here : bytes_in_templates (drop c.args.index (templates_of_tag 0x71 c.args.table.now.reply.scripts)) ≡ 1 + length c.in-Some.template.now + bytes_in_templates (drop (c.args.index + 1) (templates_of_tag 0x71 c.args.table.now.reply.scripts)) =
    ap (λ (all : List (List ℕ)). bytes_in_templates all) (drop_some _ c.args.index c.in-Some.template.now (sym c.in-Some.ensures.template)) in
    let few = c.begin-next.ensures.few in
    let left = c.before_next.ensures.step.nearer in
    record { same = search rules; nearer = omega arith; room = search rules; asked = search rules }
