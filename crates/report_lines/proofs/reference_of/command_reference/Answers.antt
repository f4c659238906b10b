use Rattle.report_lines.specs.References.{command_reference}
use Rattle.report_lines.proofs.reference_of.command_reference.Goals as goal

pub returns : goal.returns
unfolding command_reference
returns c = c.word_of.ensures
