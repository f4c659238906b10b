use Rattle.std.proofs.Common.{refl, sym, ap, ◌∙◌}
use Rattle.host_ledger.specs.Account.{account_at, with_account}
use Rattle.host_ledger.proofs.Tables.{account_found, account_kept}
use Rattle.host_ledger.proofs.accounts.Accounts.put.Goals as goal

pub returns-in-Ok-clause-ok : goal.returns-in-Ok-clause-ok
returns-in-Ok-clause-ok c = c.in-Ok.ensures.entries ∙ account_kept _ c.args.pan c.args.account c.self.inside.table.entries (λ k. refl) ∙ ap (with_account c.args.pan c.args.account) c.self.view_is

pub returns-in-Err-clause-absent : goal.returns-in-Err-clause-absent
returns-in-Err-clause-absent c = sym (account_found _ c.args.pan c.self.inside.table.entries (λ k. refl) ∙ ap (account_at c.args.pan) c.self.view_is) ∙ c.in-Err.ensures.absent
