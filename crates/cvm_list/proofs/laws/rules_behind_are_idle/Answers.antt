use Rattle.cvm_list.proofs.LawsOfRules.{behind_idle}
use Rattle.cvm_list.proofs.laws.rules_behind_are_idle.Goals as goal

pub returns : goal.returns
returns c = behind_idle
