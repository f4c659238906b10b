use Rattle.std.proofs.Common.{Some, refl, ap, ◌∙◌}
use Rattle.std.specs.Prelude.{option_map}
use Rattle.host_ledger.specs.Entries.{entry_at}
use Rattle.host_ledger.proofs.Tables.{as_entry, entry_found}
use Rattle.host_ledger.proofs.rows.Rows.get.Goals as goal

pub returns-in_err-row : goal.returns-in_err-row
returns-in_err-row c =
    c.from_residual.ensures ∙ ap (option_map (as_entry c.args.key.now)) c.in_err-row.ensures.value
    ∙ entry_found _ c.args.key.now c.self.inside.table.entries (λ k. refl) ∙ ap (entry_at c.args.key.now) c.self.view_is

pub returns : goal.returns
returns c =
    ap (λ k. Some (as_entry k c.in_ok-row.row.now)) c.copy.ensures ∙ ap (option_map (as_entry c.args.key.now)) c.in_ok-row.ensures.value
    ∙ entry_found _ c.args.key.now c.self.inside.table.entries (λ k. refl) ∙ ap (entry_at c.args.key.now) c.self.view_is
