use Rattle.report_text.proofs.LinesBack.{lines_are_read}
use Rattle.report_text.proofs.laws.lines_are_read.Goals as goal

pub returns : goal.returns
returns c = lines_are_read
