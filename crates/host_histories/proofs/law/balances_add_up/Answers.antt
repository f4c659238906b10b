use Rattle.host_histories.proofs.AddUp.{add_up}
use Rattle.host_histories.proofs.law.balances_add_up.Goals as goal

pub returns : goal.returns
returns c = add_up
