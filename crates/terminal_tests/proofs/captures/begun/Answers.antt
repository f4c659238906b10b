use Rattle.std.proofs.Common.{[], ◌∷◌}
use Rattle.torn_store.proofs.Outcomes.{has_first}
use Rattle.torn_store.proofs.Stored.{holds_among}
use Rattle.capture_store.specs.Spelling.{state_of_list}
use Rattle.terminal_tests.proofs.captures.begun.Goals as goal

pub open-requires-clause-stands : goal.open-requires-clause-stands
open-requires-clause-stands g c =
    let stands = c.prepare.ensures.stands in
    let none = state_of_list [] in (
      [],
      [],
      record {
        fits = stands.fits;
        fits_after = stands.fits;
        between = holds_among c.prepare.result.memory.cells none (none ∷ none ∷ []) stands.holds (has_first none none);
      },
    )
