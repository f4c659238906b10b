use Rattle.report_lines.specs.References.{answer_reference}
use Rattle.report_lines.proofs.reference_of.answer_reference.Goals as goal

pub returns : goal.returns
unfolding answer_reference
returns c = c.word_of.ensures
