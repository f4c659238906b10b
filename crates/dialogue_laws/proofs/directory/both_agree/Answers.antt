use Rattle.dialogue_laws.proofs.Agreed.{agreed}
use Rattle.dialogue_laws.proofs.ListSteps.{list_opens}
use Rattle.dialogue_laws.proofs.directory.both_agree.Goals as goal

pub returns-clause-agrees : goal.returns-clause-agrees
returns-clause-agrees c = agreed

pub returns-clause-opens : goal.returns-clause-opens
returns-clause-opens c = list_opens
