use Rattle.std.specs.List.{All}
use Rattle.issuer_host.specs.Account.{IsAccount}
use Rattle.bench_work.proofs.messages.accounts.Given as goal

abbrev pub invariant-loop-place : goal.invariant-loop-place
invariant-loop-place l = All IsAccount l.accounts.items
