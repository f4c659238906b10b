use Rattle.std.proofs.Common.{refl}
use Rattle.line_talk.specs.Talk.{IsRefused}
use Rattle.host_at_lines.proofs.top.serve_document.Goals as goal

pub returns-in-Ok-clause-ends : goal.returns-in-Ok-clause-ends
returns-in-Ok-clause-ends g c = c.serve_issuer.ensures.ends c.args.bytes.now c.in-Ok.ensures.exact

pub returns-in-Err-clause-ends : goal.returns-in-Err-clause-ends
returns-in-Err-clause-ends g c = IsRefused _ (c.in-Err.fault, c.in-Err.ensures.exact, refl) refl c.refuse.ensures.told
