use Rattle.txn_replay.proofs.RunLaws.DialectLines.{dialects_show, whole_dialects_show}
use Rattle.txn_replay.proofs.laws.dialects_show.Goals as goal

pub returns-clause-reached : goal.returns-clause-reached
returns-clause-reached c = dialects_show

pub returns-clause-whole : goal.returns-clause-whole
returns-clause-whole c = whole_dialects_show
