use Rattle.std.proofs.Common.{ℕ, sym, subst}
use Rattle.line_talk.specs.Talk.{TalkSinkCount}
use Rattle.line_talk.proofs.talk.write_last.Goals as goal

pub returns-in-Ok-clause-source : goal.returns-in-Ok-clause-source
returns-in-Ok-clause-source g c = λ count. (c.requires.calm count).0

pub returns-in-Ok-clause-count : goal.returns-in-Ok-clause-count
returns-in-Ok-clause-count g c =
    subst (λ (n : ℕ). TalkSinkCount (g.K.Sink.faults c.args.sink.now) n c.args.wanted) (sym c.in-Ok.ensures.cause.stays) (c.requires.calm (g.K.Sink.faults c.args.sink.now)).1
