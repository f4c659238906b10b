use Rattle.std.proofs.Common.{◌≡◌, drop}
use Rattle.std.specs.List.{position_from}
use Rattle.std.specs.Str.{bytes_eq}
use Rattle.issuer_host.specs.Holds.{account_place}
use Rattle.issuer_host.proofs.accounts.place_of.Given as goal

abbrev pub invariant-loop-place : goal.invariant-loop-place
invariant-loop-place l = position_from (λ account. bytes_eq l.pan account.pan) l.place (drop l.place l.accounts) ≡ account_place l.pan l.accounts
