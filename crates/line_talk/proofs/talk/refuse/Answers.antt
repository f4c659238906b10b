use Rattle.std.proofs.Common.{List, ℕ, subst, string_bytes}
use Rattle.line_talk.specs.Talk.{Told, WritesLast}
use Rattle.line_talk.specs.declared.status.Status.TheVariants as status
use Rattle.line_talk.proofs.talk.refuse.Goals as goal

pub returns-in-Ok-clause-told : goal.returns-in-Ok-clause-told
returns-in-Ok-clause-told g c =
    Told (string_bytes c.in-Ok.line) c.in-Ok.ensures
    (subst (λ (text : List ℕ). WritesLast status.Refused c.write_last.result (g.K.Sink.held c.args.sink.now) (g.K.Sink.held c.write_last.new.sink) text) c.as_bytes.ensures.value
    c.write_last.ensures.told)
