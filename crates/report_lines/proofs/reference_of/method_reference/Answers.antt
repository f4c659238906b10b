use Rattle.report_lines.specs.References.{method_reference}
use Rattle.report_lines.proofs.reference_of.method_reference.Goals as goal

pub returns : goal.returns
unfolding method_reference
returns c = c.word_of.ensures
