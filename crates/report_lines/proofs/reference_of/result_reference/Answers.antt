use Rattle.report_lines.specs.References.{result_reference}
use Rattle.report_lines.proofs.reference_of.result_reference.Goals as goal

pub returns : goal.returns
unfolding result_reference
returns c = c.word_of.ensures
