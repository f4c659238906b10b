use Rattle.host_ledger.specs.Accounts.{AreDistinctBelow}
use Rattle.host_ledger.proofs.ledger.without_memory.Given as goal

abbrev pub invariant-loop-place : goal.invariant-loop-place
invariant-loop-place l = AreDistinctBelow l.accounts l.place
