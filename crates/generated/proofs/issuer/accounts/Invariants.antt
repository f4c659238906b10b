use Rattle.std.proofs.Common.{◌≡◌, map}
use Rattle.std.specs.List.{range_with_len}
use Rattle.generated.specs.Issuer.{generated_account}
use Rattle.generated.proofs.issuer.accounts.Given as goal

abbrev pub invariant-loop-card : goal.invariant-loop-card
invariant-loop-card l = l.accounts.items ≡ map generated_account (range_with_len 0 l.card)
