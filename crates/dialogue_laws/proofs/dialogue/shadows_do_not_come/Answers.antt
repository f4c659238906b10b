use Rattle.dialogue_laws.proofs.Shadows.{shadows_do_not_come}
use Rattle.dialogue_laws.proofs.dialogue.shadows_do_not_come.Goals as goal

pub returns : goal.returns
returns c = shadows_do_not_come
