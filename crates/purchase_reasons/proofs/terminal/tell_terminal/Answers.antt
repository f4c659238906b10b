use Rattle.std.proofs.Common.{[], ◌++◌, codes}
use Rattle.report_lines.specs.Pieces.{line, text}
use Rattle.report_lines.proofs.Telling.{tells_then, tells_nothing}
use Rattle.purchase_reasons.specs.Reasons.{first_asked_because, then_because}
use Rattle.purchase_reasons.proofs.terminal.tell_terminal.Goals as goal

pub returns-then-talk : goal.returns-then-talk
returns-then-talk c =
    let f = c.args.followed.now in
    let talk = c.args.talk.now in
    let first = first_asked_because f.asked f.reason in
    let later = then_because talk talk.asked talk.reason in
    rw c.if-talk.true
    (tells_then _ _ _ (line 1 ++ text (codes "terminal: ")) (first ++ later)
    (tells_then _ _ _ (line 1) (text (codes "terminal: ")) c.line.ensures c.text.ensures.told)
    (tells_then _ _ _ first later c.tell_first_asked.ensures c.tell_then.ensures))

pub returns-else-talk : goal.returns-else-talk
returns-else-talk c =
    let f = c.args.followed.now in
    let first = first_asked_because f.asked f.reason in
    rw c.if-talk.false
    (tells_then _ _ _ (line 1 ++ text (codes "terminal: ")) (first ++ [])
    (tells_then _ _ _ (line 1) (text (codes "terminal: ")) c.line.ensures c.text.ensures.told)
    (tells_then _ _ _ first [] c.tell_first_asked.ensures (tells_nothing _)))
