use Rattle.txn_replay.proofs.AloneLaws.LaneRuns.{carried_are_own, alone_is_own, lane_run_is_one}
use Rattle.txn_replay.proofs.AloneLaws.OwnEvents.{steps_come_apart}
use Rattle.txn_replay.proofs.AloneLaws.OwnRuns.{first_parts}
use Rattle.txn_replay.proofs.AloneLaws.OwnReports.{lanes_stand_alone}
use Rattle.txn_replay.proofs.laws.lanes_stand_alone.Goals as goal

pub returns-clause-alone : goal.returns-clause-alone
returns-clause-alone c = lanes_stand_alone c.accounts_stand_apart.ensures

pub returns-clause-numbers : goal.returns-clause-numbers
returns-clause-numbers c = carried_are_own

pub returns-clause-first : goal.returns-clause-first
returns-clause-first c = first_parts

pub returns-clause-steps : goal.returns-clause-steps
returns-clause-steps c = steps_come_apart c.accounts_stand_apart.ensures

pub returns-clause-own : goal.returns-clause-own
returns-clause-own c = alone_is_own

pub returns-clause-one : goal.returns-clause-one
returns-clause-one c = lane_run_is_one
