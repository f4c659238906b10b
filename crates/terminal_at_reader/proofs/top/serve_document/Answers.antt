use Rattle.std.proofs.Common.{refl}
use Rattle.line_talk.proofs.Talking.{weaker}
use Rattle.line_talk.specs.Talk.{HasServed, IsRefused}
use Rattle.terminal_at_reader.specs.Talk.{IsTerminalTalk, terminal_opening}
use Rattle.terminal_at_reader.specs.Top.{terminal_programme}
use Rattle.terminal_at_reader.proofs.top.serve_document.Goals as goal

pub returns-in-Ok-clause-ends : goal.returns-in-Ok-clause-ends
returns-in-Ok-clause-ends g c =
    let lane = c.in-Ok.lane in
    HasServed (terminal_opening lane)
    (weaker (IsTerminalTalk lane) (terminal_programme.Talks c.args.bytes.now (terminal_opening lane))
    (λ turns talk. (lane, c.in-Ok.ensures.exact, refl, talk)) (terminal_opening lane) _ c.serve_terminal.result c.serve_terminal.ensures.ends)

pub returns-in-Err-clause-ends : goal.returns-in-Err-clause-ends
returns-in-Err-clause-ends g c = IsRefused _ (c.in-Err.fault, c.in-Err.ensures.exact, refl) refl c.refuse.ensures.told
