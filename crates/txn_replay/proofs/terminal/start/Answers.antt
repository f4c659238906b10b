use Rattle.std.proofs.Common.{[]}
use Rattle.txn_replay.proofs.terminal.start.Goals as goal

pub returns-clause-taken : goal.returns-clause-taken
returns-clause-taken c = ([], c.begin_again.ensures.stands)
