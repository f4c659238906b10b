use Rattle.std.proofs.Common.{[], ◌∷◌, ap, sym, subst}
use Rattle.emv_ports.specs.Memory.{Memory}
use Rattle.torn_store.specs.Layout.{recover}
use Rattle.torn_store.specs.Recovery.{Between}
use Rattle.torn_store.proofs.Outcomes.{has_first}
use Rattle.torn_store.proofs.Rows.{Cells}
use Rattle.torn_store.proofs.Stored.{holds_among}
use Rattle.terminal_tests.proofs.tears.formatted.Goals as goal

pub returns-clause-between : goal.returns-clause-between
returns-clause-between g c =
    let s = c.format.result.state in
    let planned = sym (ap (λ (m : Memory). m.cells) c.plan.ensures) in (
      s,
      s,
      subst (λ (cells : Cells). Between recover cells s s) planned
          (holds_among (g.P.Pages.memory c.into_pages-pages.result).cells s (s ∷ s ∷ []) c.into_pages-pages.ensures.holds (has_first s s)),
    )
