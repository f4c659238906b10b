use Rattle.report_lines.specs.References.{response_reference}
use Rattle.report_lines.proofs.reference_of.response_reference.Goals as goal

pub returns : goal.returns
unfolding response_reference
returns c = c.word_of.ensures
