use Rattle.std.proofs.Common.{◌≡◌, ◌++◌, ◌-◌, codes, arith}
use Rattle.report_lines.specs.Pieces.{line, text, number}
use Rattle.report_lines.proofs.Telling.{tells_then}
use Rattle.exchange_words.specs.Answers.{limits_words}
use Rattle.exchange_words.proofs.body.tell_since.Goals as goal

pub returns-in-Some-counter : goal.returns-in-Some-counter
returns-in-Some-counter c =
    let distance = c.in-Some-counter.counter - c.in-Some.last_online in
    let is : c.saturating_sub.result ≡ distance = omega (arith, c.saturating_sub.ensures) in
    let some = number distance in
    let since = text (codes " transactions since then") in
    rw (c.in-Some.is, c.in-Some-counter.is)
    (tells_then _ _ _ (line 2 ++ some ++ since) (limits_words c.args.lane.now.lower c.args.lane.now.upper)
    (tells_then _ _ _ (line 2 ++ some) since (tells_then _ _ _ (line 2) some c.line.ensures (rw is at c.number.ensures)) c.text.ensures.told)
    c.tell_limits.ensures)
