use Rattle.host_histories.proofs.Apart.{stand_apart}
use Rattle.host_histories.proofs.law.accounts_stand_apart.Goals as goal

pub returns : goal.returns
returns c = stand_apart
