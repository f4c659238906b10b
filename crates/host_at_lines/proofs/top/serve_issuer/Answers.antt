use Rattle.std.proofs.Common.{List, refl, subst, ◌∙◌}
use Rattle.issuer_host.specs.Account.{AccountData}
use Rattle.issuer_host.specs.declared.keys.HostKeys.{HostKeys}
use Rattle.line_talk.specs.Talk.{Sides, TalkEnds}
use Rattle.host_at_lines.specs.Talk.{IsHostTalk, host_opening}
use Rattle.host_at_lines.proofs.Serving.{host_served, without_memory}
use Rattle.host_at_lines.proofs.top.serve_issuer.Goals as goal

pub returns-in-Ok-clause-ends : goal.returns-in-Ok-clause-ends
returns-in-Ok-clause-ends g c = λ bytes reading.
    let sides : Sides = record {
      first = g.S.Source.left c.args.source.now;
      left = g.S.Source.left c.serve_host.new.source;
      before = g.K.Sink.held c.args.sink.now;
      held = g.K.Sink.held c.serve_host.new.sink;
    } in
    host_served bytes _ reading sides c.serve_host.result
    (subst (λ (k : HostKeys). TalkEnds (IsHostTalk k c.args.issuer.accounts.items) host_opening sides c.serve_host.result) c.in-Ok.ensures.keys
    (subst (λ (a : List AccountData). TalkEnds (IsHostTalk c.in-Ok.host.keys a) host_opening sides c.serve_host.result) (c.in-Ok.ensures.accounts ∙ c.as_slice.ensures.value)
    c.serve_host.ensures.ends))

pub returns-clause-ends : goal.returns-clause-ends
returns-clause-ends g c = λ bytes reading. without_memory bytes _ refl refl
