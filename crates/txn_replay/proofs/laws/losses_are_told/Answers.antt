use Rattle.txn_replay.proofs.CardLaws.CardLosses.{losses_are_told, whole_losses}
use Rattle.txn_replay.proofs.laws.losses_are_told.Goals as goal

pub returns-clause-reached : goal.returns-clause-reached
returns-clause-reached c = losses_are_told

pub returns-clause-whole : goal.returns-clause-whole
returns-clause-whole c = whole_losses
