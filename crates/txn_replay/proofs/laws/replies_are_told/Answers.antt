use Rattle.txn_replay.proofs.LineLaws.RepliesTold.{replies_told, pasts_end}
use Rattle.txn_replay.proofs.LineLaws.MessagesTold.{messages_are_told}
use Rattle.txn_replay.proofs.laws.replies_are_told.Goals as goal

pub returns-clause-replies : goal.returns-clause-replies
returns-clause-replies c = replies_told

pub returns-clause-ends : goal.returns-clause-ends
returns-clause-ends c = pasts_end

pub returns-clause-messages : goal.returns-clause-messages
returns-clause-messages c = messages_are_told
