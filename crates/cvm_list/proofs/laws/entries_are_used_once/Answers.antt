use Rattle.cvm_list.proofs.LawsOfRules.{used_once}
use Rattle.cvm_list.proofs.laws.entries_are_used_once.Goals as goal

pub returns : goal.returns
returns c = used_once
