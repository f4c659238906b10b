use Rattle.txn_replay.proofs.StoreLaws.StoreFirst.{lost_keeps}
use Rattle.txn_replay.proofs.lane.lose_purchase.Goals as goal

pub returns-clause-keeps : goal.returns-clause-keeps
returns-clause-keeps c = λ row keeps. lost_keeps c.args.lane.now row keeps
