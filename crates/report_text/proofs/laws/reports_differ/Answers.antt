use Rattle.report_text.proofs.LineLaws.{reports_differ}
use Rattle.report_text.proofs.laws.reports_differ.Goals as goal

pub returns : goal.returns
returns c = reports_differ
