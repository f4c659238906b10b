use Rattle.std.proofs.Common.{◌≡◌, ◌≤◌, take, map}
use Rattle.std.specs.List.{All}
use Rattle.emv_dict.specs.Settings.{most_amount}
use Rattle.issuer_host.specs.Holds.{opening_balance}
use Rattle.issuer_host.proofs.accounts.openings.Given as goal

abbrev pub invariant-loop-account : goal.invariant-loop-account
invariant-loop-account l = record {
  so_far : l.openings.items ≡ map opening_balance (take l.account-index l.accounts);
  small : All (λ account. account.1 ≤ most_amount) l.openings.items;
}
