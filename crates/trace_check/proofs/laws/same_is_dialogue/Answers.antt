use Rattle.trace_check.proofs.Lawful.{same_is_dialogue}
use Rattle.trace_check.proofs.laws.same_is_dialogue.Goals as goal

pub returns : goal.returns
returns c = same_is_dialogue
