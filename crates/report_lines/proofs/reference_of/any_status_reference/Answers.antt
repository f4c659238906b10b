use Rattle.report_lines.specs.References.{any_status_reference}
use Rattle.report_lines.proofs.reference_of.any_status_reference.Goals as goal

pub returns : goal.returns
unfolding any_status_reference
returns c = c.word_of.ensures
