use Rattle.std.proofs.Common.{◌∙◌, ap}
use Rattle.kernel.specs.Kernel.{KernelData, outset_in, kernel_next}
use Rattle.kernel.specs.declared.kernel.Next.TheVariants as next
use Rattle.kernel.specs.Reply.{CardGone}
use Rattle.kernel.proofs.Turning.{gone_leaves}
use Rattle.kernel.proofs.Took.{kernel_took, not_spent}
use Rattle.kernel.proofs.kernel.Kernel.take_gone.Goals as goal

pub returns-clause-fresh : goal.returns-clause-fresh
returns-clause-fresh c = not_spent (record { table = c.self.inside.table; card = c.self.inside.card; stage = c.self.inside.stage; taken = c.self.inside.taken; is_spent = c.self.inside.is_spent }) next.ToCard c.self.invariant (ap kernel_next c.self.view_is ∙ c.requires.waits) (λ is. cc)

pub returns-clause-stands : goal.returns-clause-stands
returns-clause-stands c = λ replies is.
    let i = c.self.inside in
    let k : KernelData = record { table = i.table; card = i.card; stage = i.stage; taken = i.taken; is_spent = i.is_spent } in
    kernel_took k _ (CardGone) (λ before. before) replies (c.stage_gone-self-inside.ensures.step c.self.inside.card (rw c.replace-stage.ensures.value c.self.invariant.stage)).same c.saturating_add-self-inside.ensures
    (λ before rest goes. c.stage_gone-self-inside.ensures.stands i.card before rest (rw c.replace-stage.ensures.value goes))
    (rw (← c.self.view_is) at is)

pub stage_gone-self-inside-requires-clause-fits : goal.stage_gone-self-inside-requires-clause-fits
stage_gone-self-inside-requires-clause-fits c = (c.self.inside.card, rw c.replace-stage.ensures.value c.self.invariant.stage)

pub returns-clause-outset : goal.returns-clause-outset
returns-clause-outset c = (c.stage_gone-self-inside.ensures.step c.self.inside.card (rw c.replace-stage.ensures.value c.self.invariant.stage)).same ∙ ap outset_in c.self.view_is

pub invariant_of-self : goal.invariant_of-self
invariant_of-self c = record {
  outset = rw (c.stage_gone-self-inside.ensures.step c.self.inside.card (rw c.replace-stage.ensures.value c.self.invariant.stage)).same c.self.invariant.outset;
  stage = (c.stage_gone-self-inside.ensures.step c.self.inside.card (rw c.replace-stage.ensures.value c.self.invariant.stage)).fits;
  over = λ spent. let fresh = returns-clause-fresh c in cc;
}

pub returns-clause-leaves : goal.returns-clause-leaves
returns-clause-leaves c = λ replies is.
    let i = c.self.inside in
    let k : KernelData = record { table = i.table; card = i.card; stage = i.stage; taken = i.taken; is_spent = i.is_spent } in
    rw (← c.self.view_is)
    (gone_leaves k _ replies c.self.invariant (rw (← c.self.view_is) at is) (ap kernel_next c.self.view_is ∙ c.requires.waits) (c.stage_gone-self-inside.ensures.step c.self.inside.card (rw c.replace-stage.ensures.value c.self.invariant.stage)).same
    (invariant_of-self c) (returns-clause-stands c replies is) c.stage_gone-self-inside.ensures.ended)
