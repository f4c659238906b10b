use Rattle.txn_replay.proofs.LineLaws.CommandsTold.{runs_ask, whole_runs_ask}
use Rattle.txn_replay.proofs.LineLaws.SessionsTold.{sessions_are_told}
use Rattle.txn_replay.proofs.laws.commands_are_told.Goals as goal

pub returns-clause-asked : goal.returns-clause-asked
returns-clause-asked c = runs_ask

pub returns-clause-whole : goal.returns-clause-whole
returns-clause-whole c = whole_runs_ask

pub returns-clause-sessions : goal.returns-clause-sessions
returns-clause-sessions c = sessions_are_told
