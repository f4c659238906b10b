use Rattle.host_histories.proofs.Once.{booked_once_law}
use Rattle.host_histories.proofs.law.transactions_are_booked_once.Goals as goal

pub returns : goal.returns
returns c = booked_once_law
