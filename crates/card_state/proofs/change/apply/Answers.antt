use Rattle.card_state.proofs.AllowedLemmas.{Allowed-longer}
use Rattle.card_state.proofs.CardLemmas.{totals-longer}
use Rattle.card_state.proofs.ShortLogs.{short_after}
use Rattle.card_state.proofs.change.apply.Goals as goal

pub returns-clause-totals : goal.returns-clause-totals
returns-clause-totals c = λ opening ds is.
    totals-longer opening ds c.args.app c.args.decision.now c.args.state.now c.change.new.state c.requires.in_range c.change.ensures.card
    c.change.ensures.app is

pub returns-clause-allowed : goal.returns-clause-allowed
returns-clause-allowed c = λ opening ds is allowed.
    Allowed-longer opening c.args.state.now ds (record { app = c.args.app; decision = c.args.decision.now }) is
    (record { in_range = c.requires.in_range; allowed = c.requires.allowed }) allowed

pub returns-clause-short : goal.returns-clause-short
returns-clause-short c = λ short.
    short_after c.args.state.now c.change.new.state c.args.app c.args.decision.now c.requires.in_range c.change.ensures.app short
