use Rattle.std.proofs.Common.{[], ◌∷◌, ◌++◌}
use Rattle.std.specs.Prelude.{option_map}
use Rattle.kernel.specs.Reply.{from_host}
use Rattle.txn_replay.proofs.CaptureLaws.NoRequestCaptured.{taken_as}
use Rattle.txn_replay.proofs.terminal.hear.Goals as goal

pub returns-clause-taken : goal.returns-clause-taken
returns-clause-taken c = λ taken.
    let was = taken_as c.args.lane.now.running c.in-Some.kernel c.deref_mut.result.now c.in-Some.is c.deref_mut.ensures.value taken in
    (was.0 ++ from_host (option_map (λ reply. reply.now) c.args.reply) ∷ [], c.take_host.ensures.stands was.0 was.1)
