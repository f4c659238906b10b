use Rattle.report_text.proofs.LineLaws.{lines_differ}
use Rattle.report_text.proofs.laws.lines_differ.Goals as goal

pub returns : goal.returns
returns c = lines_differ
