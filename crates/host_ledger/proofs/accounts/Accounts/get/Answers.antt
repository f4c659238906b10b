use Rattle.std.proofs.Common.{refl, ap, ◌∙◌}
use Rattle.host_ledger.specs.Account.{account_at}
use Rattle.host_ledger.proofs.Tables.{account_found}
use Rattle.host_ledger.proofs.accounts.Accounts.get.Goals as goal

pub returns : goal.returns
returns c = c.copied.ensures ∙ c.get.ensures.value ∙ account_found _ c.args.pan.now c.self.inside.table.entries (λ k. refl) ∙ ap (account_at c.args.pan.now) c.self.view_is
