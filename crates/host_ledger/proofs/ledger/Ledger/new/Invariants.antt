use Rattle.std.proofs.Common.{◌≡◌, map, take, []}
use Rattle.host_ledger.specs.Account.{with_opening_balance, AreBalanced}
use Rattle.host_ledger.specs.Accounts.{AreDistinctBelow}
use Rattle.host_ledger.proofs.ledger.Ledger.new.Given as goal

abbrev pub invariant-loop-place : goal.invariant-loop-place
invariant-loop-place l = record {
  seen : map with_opening_balance l.opened ≡ take l.place l.fn.accounts.items;
  balanced : AreBalanced l.opened [];
  distinct : AreDistinctBelow l.fn.accounts.items l.place;
}
