use Rattle.report_lines.specs.References.{outcome_reference}
use Rattle.report_lines.proofs.reference_of.outcome_reference.Goals as goal

pub returns : goal.returns
unfolding outcome_reference
returns c = c.word_of.ensures
