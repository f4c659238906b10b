use Rattle.std.proofs.Common.{[], ◌∷◌, refl, lit<, ap, sym, subst}
use Rattle.emv_ports.specs.Memory.{Memory}
use Rattle.torn_store.specs.Layout.{recover}
use Rattle.torn_store.specs.Recovery.{Among}
use Rattle.torn_store.proofs.Rows.{Cells}
use Rattle.torn_store.proofs.Stored.{holds_among}
use Rattle.terminal_tests.proofs.tears.turned_on.Goals as goal

pub returns-in-Ok-clause-among : goal.returns-in-Ok-clause-among
returns-in-Ok-clause-among g c =
    let s = c.in-Ok.store.state in
    (s ∷ [], holds_among (g.P.Pages.memory c.into_pages.result).cells s (s ∷ []) c.into_pages.ensures.holds (0, lit< tt, refl))

pub returns-in-Err-clause-among : goal.returns-in-Err-clause-among
returns-in-Err-clause-among g c =
    let a = c.requires.among in
    let planned = sym (ap (λ (m : Memory). m.cells) c.plan.ensures) in
    (_, c.in-Err.ensures.lost a.0 (subst (λ (cells : Cells). Among recover cells a.0) planned a.1))
