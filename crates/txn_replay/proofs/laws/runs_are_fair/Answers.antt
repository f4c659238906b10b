use Rattle.txn_replay.proofs.RunLaws.FairRuns.{reached_fair, whole_fair}
use Rattle.txn_replay.proofs.laws.runs_are_fair.Goals as goal

pub returns-clause-reached : goal.returns-clause-reached
returns-clause-reached c = reached_fair c.transactions_are_booked_once.ensures

pub returns-clause-whole : goal.returns-clause-whole
returns-clause-whole c = whole_fair c.transactions_are_booked_once.ensures
