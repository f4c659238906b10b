use Rattle.std.proofs.Common.{List, subst}
use Rattle.issuer_host.specs.Account.{AccountData}
use Rattle.issuer_host.specs.declared.keys.HostKeys.{HostKeys}
use Rattle.line_talk.specs.Talk.{Sides, TalkEnds}
use Rattle.host_at_lines.specs.Talk.{IsHostTalk, host_opening}
use Rattle.host_at_lines.proofs.top.serve_host.Goals as goal

pub returns-clause-ends : goal.returns-clause-ends
returns-clause-ends g c =
    let sides : Sides = record {
      first = g.S.Source.left c.args.source.now;
      left = g.S.Source.left c.converse.new.source;
      before = g.K.Sink.held c.args.sink.now;
      held = g.K.Sink.held c.converse.new.sink;
    } in
    subst (λ (k : HostKeys). TalkEnds (IsHostTalk k c.args.host.accounts) host_opening sides c.converse.result) c.begin-at.ensures.keys
    (subst (λ (a : List AccountData). TalkEnds (IsHostTalk c.begin-at.result.host.keys a) host_opening sides c.converse.result) c.begin-at.ensures.accounts c.converse.ensures.ends)
