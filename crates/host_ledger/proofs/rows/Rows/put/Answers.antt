use Rattle.std.proofs.Common.{map, refl, sym, ap, ◌∙◌}
use Rattle.std.specs.Prelude.{option_map}
use Rattle.host_ledger.specs.Entries.{entry_at, with_entry}
use Rattle.host_ledger.specs.declared.rows.Row.{Row}
use Rattle.host_ledger.specs.KeptEntries.{kept_entry}
use Rattle.host_ledger.proofs.Tables.{as_entry, entry_found, entry_kept}
use Rattle.host_ledger.proofs.rows.Rows.put.Goals as goal

pub returns-in-Ok-clause-ok : goal.returns-in-Ok-clause-ok
returns-in-Ok-clause-ok c =
    let row : Row = record { amount = c.args.entry.amount; state = c.args.entry.state } in
    ap (map kept_entry) c.in-Ok.ensures.entries ∙ entry_kept _ c.args.entry.key row c.self.inside.table.entries (λ k. refl) ∙ ap (with_entry c.args.entry) c.self.view_is

pub returns-in-Err-clause-absent : goal.returns-in-Err-clause-absent
returns-in-Err-clause-absent c =
    sym (entry_found _ c.args.entry.key c.self.inside.table.entries (λ k. refl) ∙ ap (entry_at c.args.entry.key) c.self.view_is)
    ∙ ap (option_map (as_entry c.args.entry.key)) c.in-Err.ensures.absent
