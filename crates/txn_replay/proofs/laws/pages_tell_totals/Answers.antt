use Rattle.txn_replay.proofs.CardLaws.SamePages.{pages_tell}
use Rattle.txn_replay.proofs.laws.pages_tell_totals.Goals as goal

pub returns : goal.returns
returns c = pages_tell
