use Rattle.std.proofs.Common.{[], sym}
use Rattle.script_run.proofs.Stages.{gave_up, no_answer}
use Rattle.script_run.proofs.running.Running.gone.Goals as goal

pub returns-clause-leads : goal.returns-clause-leads
returns-clause-leads c whole answers leads =
    gave_up whole answers _ _ _ c.self.invariant.command [] c.self.invariant.later _ c.self.invariant.stands c.self.invariant.sendable no_answer c.failed_at.ensures
    (rw (sym c.self.view_is) at leads)
