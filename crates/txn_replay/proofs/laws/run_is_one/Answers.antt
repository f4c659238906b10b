use Rattle.txn_replay.proofs.RunLaws.OneRun.{none_is_open, run_is_one}
use Rattle.txn_replay.proofs.laws.run_is_one.Goals as goal

pub returns-clause-closed : goal.returns-clause-closed
returns-clause-closed c = none_is_open

pub returns-clause-one : goal.returns-clause-one
returns-clause-one c = run_is_one
