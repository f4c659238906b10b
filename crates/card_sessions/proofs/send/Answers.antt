-- The card stands for the longer session, or its pages for what the cut leaves.
use Rattle.std.proofs.Common.{◌+◌, [], ◌∷◌, ◌++◌, length}
use Rattle.card_app.specs.Answering.{card_answer}
use Rattle.card_app.specs.Cuts.{fate_by, kept_by, pending_by}
use Rattle.card_sessions.proofs.send.Goals as goal

pub returns-in-Ok-clause-on : goal.returns-in-Ok-clause-on
returns-in-Ok-clause-on g c =
    let s = c.requires.card in
    let answered = c.in-Ok.ensures.answered s.0 s.1 s.2 s.3 s.4 in
    let new = (card_answer c.args.icc.now.image s.1 s.0 c.args.command.now).new in (
      s.0 ++ record { command = c.args.command.now; answer = c.process.new.out.items } ∷ [],
      s.1 ++ new,
      s.2,
      s.3 + length new,
      answered.on,
    )

pub returns-in-Err-clause-off : goal.returns-in-Err-clause-off
returns-in-Err-clause-off g c =
    let s = c.requires.card in
    let cut = c.in-Err.ensures.cut s.0 s.1 s.2 s.3 s.4 in
    (kept_by (fate_by s.2) s.1 cut.0, pending_by (fate_by s.2) cut.0, cut.1.off)
