-- The pages stand for the decisions.
use Rattle.std.proofs.Common.{None}
use Rattle.card_sessions.proofs.turn_off.Goals as goal

pub returns : goal.returns
returns g c =
    let s = c.requires.card in
    record { off = (s.1, None, c.power_off.ensures.stands s.0 s.1 s.2 s.3 s.4) }
