use Rattle.txn_replay.proofs.RunLaws.FairRuns.{reached_few, reached_settlements}
use Rattle.txn_replay.proofs.RunLaws.FewEvents.{checks_few}
use Rattle.txn_replay.proofs.RunLaws.TurnsEnd.{stuck_over, calm_over}
use Rattle.txn_replay.proofs.laws.runs_end.Goals as goal

pub returns-clause-stuck : goal.returns-clause-stuck
returns-clause-stuck c = stuck_over

pub returns-clause-calm : goal.returns-clause-calm
returns-clause-calm c = calm_over

pub returns-clause-few : goal.returns-clause-few
returns-clause-few c = reached_few

pub returns-clause-settlements : goal.returns-clause-settlements
returns-clause-settlements c = reached_settlements

pub returns-clause-checks : goal.returns-clause-checks
returns-clause-checks c = checks_few
