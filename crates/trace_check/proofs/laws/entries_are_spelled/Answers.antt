use Rattle.trace_check.proofs.Spelling.{text_is, text_again}
use Rattle.trace_check.proofs.laws.entries_are_spelled.Goals as goal

pub returns : goal.returns
returns c = (text_is, text_again)
