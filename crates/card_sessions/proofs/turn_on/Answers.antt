-- The card stands for the decisions that were found, at the start of a session.
use Rattle.std.proofs.Common.{[]}
use Rattle.card_app.specs.Pages.{found_of}
use Rattle.card_sessions.proofs.turn_on.Goals as goal

pub returns-in-Ok-clause-on : goal.returns-in-Ok-clause-on
returns-in-Ok-clause-on g c =
    let s = c.requires.card in
    let found = c.in-Ok.ensures.found s.0 s.1 s.2 in
    ([], found_of s.0 s.1 found.0, c.args.tear, 0, found.1)

pub returns-in-Err-clause-off : goal.returns-in-Err-clause-off
returns-in-Err-clause-off g c =
    let s = c.requires.card in
    (s.0, s.1, c.in-Err.ensures.lost s.0 s.1 s.2)
