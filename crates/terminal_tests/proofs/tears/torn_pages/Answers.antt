use Rattle.std.proofs.Common.{[], ◌∷◌}
use Rattle.torn_store.proofs.Outcomes.{has_first}
use Rattle.torn_store.proofs.Stored.{holds_among}
use Rattle.terminal_tests.proofs.tears.torn_pages.Goals as goal

pub returns-in-Err-clause-between : goal.returns-in-Err-clause-between
returns-in-Err-clause-between g c =
    let b = c.formatted-pages.ensures.between in
    (b.0, b.1, c.in-Err.ensures.lost b.0 b.1 b.2)

pub returns-in-Ok-settled-clause-between : goal.returns-in-Ok-settled-clause-between
returns-in-Ok-settled-clause-between g c =
    let s = c.in-Ok-settled.store.state in
    (s, s, holds_among (g.P.Pages.memory c.into_pages.result).cells s (s ∷ s ∷ []) c.into_pages.ensures.holds (has_first s s))
