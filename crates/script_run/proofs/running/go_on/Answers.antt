use Rattle.std.proofs.Common.{sym, ◌∙◌}
use Rattle.script_run.proofs.Stages.{ended, not_sent}
use Rattle.script_run.proofs.running.go_on.Goals as goal

pub returns-in_default-clause-leads : goal.returns-in_default-clause-leads
returns-in_default-clause-leads c whole answers leads = ended whole answers _ _ _ _ c.in_default.ensures.left c.all_went_on.ensures leads

pub returns-else-is_command-clause-leads : goal.returns-else-is_command-clause-leads
returns-else-is_command-clause-leads c whole answers leads =
    not_sent whole answers _ _ _ _ _ _ c.in-Some.ensures.left (sym c.is_command.ensures ∙ c.if-is_command.false) c.failed_at.ensures leads
