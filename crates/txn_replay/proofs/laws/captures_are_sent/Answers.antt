use Rattle.txn_replay.proofs.CaptureLaws.CapturesSent.{captures_sent}
use Rattle.txn_replay.proofs.LineLaws.LostPurchasesTold.{lost_are_told, whole_lost}
use Rattle.txn_replay.proofs.laws.captures_are_sent.Goals as goal

pub returns-clause-sent : goal.returns-clause-sent
returns-clause-sent c = captures_sent

pub returns-clause-lost : goal.returns-clause-lost
returns-clause-lost c = lost_are_told

pub returns-clause-lost_whole : goal.returns-clause-lost_whole
returns-clause-lost_whole c = whole_lost
