use Rattle.std.proofs.Common.{◌∙◌, ap}
use Rattle.kernel.specs.Kernel.{KernelData, kernel_next}
use Rattle.kernel.specs.declared.kernel.Next.TheVariants as next
use Rattle.kernel.proofs.Took.{kernel_took, not_spent}
use Rattle.kernel.proofs.kernel.Kernel.take_host.Goals as goal

pub returns-clause-fresh : goal.returns-clause-fresh
returns-clause-fresh c = not_spent (record { table = c.self.inside.table; card = c.self.inside.card; stage = c.self.inside.stage; taken = c.self.inside.taken; is_spent = c.self.inside.is_spent }) next.ToHost c.self.invariant (ap kernel_next c.self.view_is ∙ c.requires.waits) (λ is. cc)

pub returns-clause-stands : goal.returns-clause-stands
returns-clause-stands c = λ replies is.
    let i = c.self.inside in
    let k : KernelData = record { table = i.table; card = i.card; stage = i.stage; taken = i.taken; is_spent = i.is_spent } in
    kernel_took k _ (_) (λ before. before) replies c.stage_heard-self-inside.ensures.step.same c.saturating_add-self-inside.ensures
    (λ before rest goes. c.stage_heard-self-inside.ensures.stands before rest (rw c.replace-stage.ensures.value goes))
    (rw (← c.self.view_is) at is)

pub stage_heard-self-inside-requires-clause-fits : goal.stage_heard-self-inside-requires-clause-fits
stage_heard-self-inside-requires-clause-fits c = rw c.replace-stage.ensures.value c.self.invariant.stage

pub invariant_of-self : goal.invariant_of-self
invariant_of-self c = record {
  outset = rw c.stage_heard-self-inside.ensures.step.same c.self.invariant.outset;
  stage = c.stage_heard-self-inside.ensures.step.fits;
  over = λ spent. let fresh = returns-clause-fresh c in cc;
}
