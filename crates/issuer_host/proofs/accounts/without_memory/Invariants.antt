use Rattle.std.proofs.Common.{map}
use Rattle.host_ledger.specs.Accounts.{AreDistinctBelow}
use Rattle.issuer_host.specs.Holds.{opening_balance}
use Rattle.issuer_host.proofs.accounts.without_memory.Given as goal

abbrev pub invariant-loop-place : goal.invariant-loop-place
invariant-loop-place l = AreDistinctBelow (map opening_balance l.accounts) l.place
