use Rattle.std.proofs.Common.{List, ℕ, slice_get, ap, ◌∙◌}
use Rattle.script_run.specs.Script.{commands_of}
use Rattle.script_run.proofs.Bounds.{asked_left, asked_few}
use Rattle.script_run.proofs.running.asked.Goals as goal

pub returns-clause-left : goal.returns-clause-left
returns-clause-left c =
    asked_left c.command_at.result (commands_of c.args.template.now.items) c.args.before
    (c.command_at.ensures ∙ ap (λ (template : List ℕ). slice_get (commands_of template) c.args.before) c.deref.ensures.0)

pub returns-clause-few : goal.returns-clause-few
returns-clause-few c =
    asked_few c.command_at.result c.args.template.now.items c.args.before (rw c.deref.ensures.0 at c.deref.ensures.1)
    (c.command_at.ensures ∙ ap (λ (template : List ℕ). slice_get (commands_of template) c.args.before) c.deref.ensures.0)
