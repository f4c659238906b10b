use Rattle.std.proofs.Common.{List, ℕ, ap, ◌∙◌, slice_get}
use Rattle.kernel.proofs.Scripting.{template_short, template_few}
use Rattle.kernel.proofs.issuer_scripts.template_of.Goals as goal
use Rattle.terminal_state.specs.Scripts.{templates_of_tag}

pub returns-clause-short : goal.returns-clause-short
unfolding templates_of_tag
returns-clause-short c =
    template_short c.nth_value.result c.args.tag.0 c.reply.inside.scripts.items c.args.index (rw c.deref.ensures.0 at c.deref.ensures.1)
    (c.nth_value.ensures ∙ ap (λ (bytes : List ℕ). slice_get (templates_of_tag c.args.tag.0 bytes) c.args.index) c.deref.ensures.0)

pub returns-clause-few : goal.returns-clause-few
unfolding templates_of_tag
returns-clause-few c =
    template_few c.nth_value.result c.args.tag.0 c.reply.inside.scripts.items c.args.index c.reply.invariant
    (c.nth_value.ensures ∙ ap (λ (bytes : List ℕ). slice_get (templates_of_tag c.args.tag.0 bytes) c.args.index) c.deref.ensures.0)
