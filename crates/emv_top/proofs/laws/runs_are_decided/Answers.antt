use Rattle.emv_top.proofs.Deciding.{runs_decided}
use Rattle.emv_top.proofs.laws.runs_are_decided.Goals as goal

pub returns : goal.returns
returns c = runs_decided c.purchases_are_decided.ensures c.hosts_are_linked.ensures
