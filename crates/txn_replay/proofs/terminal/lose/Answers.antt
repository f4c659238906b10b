use Rattle.std.proofs.Common.{[], ◌∷◌, ◌++◌}
use Rattle.kernel.specs.Reply.{CardGone}
use Rattle.txn_replay.proofs.CaptureLaws.NoRequestCaptured.{taken_as}
use Rattle.txn_replay.proofs.terminal.lose.Goals as goal

pub returns-clause-taken : goal.returns-clause-taken
returns-clause-taken c = λ taken.
    let was = taken_as c.args.lane.now.running c.in-Some.kernel c.deref_mut.result.now c.in-Some.is c.deref_mut.ensures.value taken in
    (was.0 ++ CardGone ∷ [], c.take_gone.ensures.stands was.0 was.1)
