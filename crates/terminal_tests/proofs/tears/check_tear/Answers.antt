use Rattle.std.proofs.Common.{[], ◌∷◌}
use Rattle.torn_store.proofs.Outcomes.{has_first}
use Rattle.torn_store.proofs.Stored.{holds_among}
use Rattle.terminal_tests.proofs.tears.check_tear.Goals as goal

pub opened-again-requires-clause-between : goal.opened-again-requires-clause-between
opened-again-requires-clause-between g c =
    let s = c.opened-store.result.state in
    (s, s, holds_among c.into_pages.result.memory.cells s (s ∷ s ∷ []) c.into_pages.ensures.holds (has_first s s))
