use Rattle.std.proofs.Common.{sym, ◌∙◌}
use Rattle.script_run.proofs.Bounds.{drop_behind}
use Rattle.script_run.proofs.Stages.{went_on, gave_up}
use Rattle.script_run.proofs.running.Running.take.Goals as goal

pub returns-then-goes_on-clause-leads : goal.returns-then-goes_on-clause-leads
returns-then-goes_on-clause-leads c whole answers leads =
    c.go_on.ensures.leads whole _
    (rw (drop_behind _ _ _ _ c.self.invariant.stands)
    (went_on whole answers _ _ _ c.self.invariant.command c.args.reply.now c.self.invariant.later c.self.invariant.stands c.self.invariant.sendable (sym c.goes_on.ensures ∙ c.if-goes_on.true)
    (rw (sym c.self.view_is) at leads)))

pub returns-else-goes_on-clause-leads : goal.returns-else-goes_on-clause-leads
returns-else-goes_on-clause-leads c whole answers leads =
    gave_up whole answers _ _ _ c.self.invariant.command c.args.reply.now c.self.invariant.later _ c.self.invariant.stands c.self.invariant.sendable (sym c.goes_on.ensures ∙ c.if-goes_on.false) c.failed_at.ensures
    (rw (sym c.self.view_is) at leads)
