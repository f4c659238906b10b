use Rattle.std.proofs.Common.{ℕ, List, refl, sym, subst, ◌∙◌}
use Rattle.std.proofs.lemmas.Result.{IfOk-weaker, IfErr-weaker}
use Rattle.line_talk.specs.Coming.{Comes}
use Rattle.line_talk.specs.SoFar.{SourceStep}
use Rattle.line_talk.specs.Talk.{EndsWith, NoneAwaited, TooLong}
use Rattle.line_talk.specs.Turns.{GoesOn}
use Rattle.line_talk.specs.declared.line.Came.TheVariants as came
use Rattle.line_talk.specs.declared.party.Onward.{Onward}
use Rattle.line_talk.specs.declared.status.Status.TheVariants.{Done, Unserved}
use Rattle.line_talk.proofs.Talking.{at_end, is_over, no_line, source_gone}
use Rattle.line_talk.proofs.talk.exchange.Goals as goal
use Rattle.line_talk.proofs.talk.exchange.Goals.{in-Awaits, in-Rests}

pub returns-in-Over-clause-ends : goal.returns-in-Over-clause-ends
returns-in-Over-clause-ends g c = λ count first before far.
    is_over (g.T.Party.stands c.args.party.now) (g.T.Party.talks c.args.party.now) (g.met.T.Party.told c.args.party.now) (g.T.Party.opening c.args.party.now) c.args.onward count first
    (g.S.Source.left c.args.source.now) before (g.K.Sink.held c.args.sink.now) far Done (subst (λ (o : Onward). EndsWith o Done) (sym c.in-Over.is) refl)

pub returns-in-Stuck-clause-ends : goal.returns-in-Stuck-clause-ends
returns-in-Stuck-clause-ends g c = λ count first before far.
    is_over (g.T.Party.stands c.args.party.now) (g.T.Party.talks c.args.party.now) (g.met.T.Party.told c.args.party.now) (g.T.Party.opening c.args.party.now) c.args.onward count first
    (g.S.Source.left c.args.source.now) before (g.K.Sink.held c.args.sink.now) far Unserved (subst (λ (o : Onward). EndsWith o Unserved) (sym c.in-Stuck.is) refl)

pub returns-in-Ok-Line-clause-goes : goal.returns-in-Ok-Line-clause-goes
returns-in-Ok-Line-clause-goes g c =
    let comes = rw c.in-Ok-Line.field-0-is at c.in-Ok-Line.ensures.comes in
    IfOk-weaker c.answer.result _ _
    (λ then goes. λ count first before far.
    goes c.args.onward count first (g.S.Source.left c.args.source.now) (g.S.Source.left c.read_line.new.source)
    before (elim c.match-onward.branch [ in-Awaits w ↦ subst GoesOn (sym w.in-Awaits.is) tt | in-Rests w ↦ subst GoesOn (sym w.in-Rests.is) tt ]) far
    (subst (λ (line : List ℕ). Comes came.Line (g.S.Source.left c.args.source.now) (g.S.Source.left c.read_line.new.source) line) (sym c.as_slice.ensures.value) comes))
    c.answer.ensures.goes

pub returns-in-Ok-Line-clause-ends : goal.returns-in-Ok-Line-clause-ends
returns-in-Ok-Line-clause-ends g c =
    let comes = rw c.in-Ok-Line.field-0-is at c.in-Ok-Line.ensures.comes in
    IfErr-weaker c.answer.result _ _
    (λ status ends. λ count first before far.
    ends c.args.onward count first (g.S.Source.left c.args.source.now) (g.S.Source.left c.read_line.new.source)
    before (elim c.match-onward.branch [ in-Awaits w ↦ subst GoesOn (sym w.in-Awaits.is) tt | in-Rests w ↦ subst GoesOn (sym w.in-Rests.is) tt ]) far
    (subst (λ (line : List ℕ). Comes came.Line (g.S.Source.left c.args.source.now) (g.S.Source.left c.read_line.new.source) line) (sym c.as_slice.ensures.value) comes))
    c.answer.ensures.ends

pub returns-in-Ok-Line-clause-source : goal.returns-in-Ok-Line-clause-source
returns-in-Ok-Line-clause-source g c =
    subst (λ (n : ℕ). SourceStep (g.S.Source.faults c.args.source.now) n c.answer.result) (sym c.in-Ok-Line.ensures.cause.stays)
    (c.answer.ensures.source (g.S.Source.faults c.args.source.now))

pub returns-then-may_end-clause-ends : goal.returns-then-may_end-clause-ends
returns-then-may_end-clause-ends g c = λ count first before far.
    let comes = rw c.in-Ok-End.field-0-is at c.in-Ok-End.ensures.comes in
    at_end (g.T.Party.stands c.args.party.now) (g.T.Party.talks c.args.party.now) (g.met.T.Party.told c.args.party.now) (g.T.Party.opening c.args.party.now) c.args.onward count first
    (g.S.Source.left c.args.source.now) before (g.K.Sink.held c.args.sink.now) far (g.S.Source.left c.read_line.new.source) c.read_line.new.line.items comes (sym c.may_end.ensures ∙ c.if-may_end.true)

pub returns-else-may_end-clause-ends : goal.returns-else-may_end-clause-ends
returns-else-may_end-clause-ends g c = λ count first before far.
    let comes = rw c.in-Ok-End.field-0-is at c.in-Ok-End.ensures.comes in
    no_line (g.T.Party.stands c.args.party.now) (g.T.Party.talks c.args.party.now) (g.met.T.Party.told c.args.party.now) (g.T.Party.opening c.args.party.now) c.args.onward count first
    (g.S.Source.left c.args.source.now) before (g.K.Sink.held c.args.sink.now) far (g.S.Source.left c.read_line.new.source) (g.K.Sink.held c.answer_other.new.sink)
    c.answer_other.result (λ turns counted. NoneAwaited (g.S.Source.left c.read_line.new.source) c.read_line.new.line.items comes (sym c.may_end.ensures ∙ c.if-may_end.false)) c.answer_other.ensures.told

pub returns-in-Ok-Long-clause-ends : goal.returns-in-Ok-Long-clause-ends
returns-in-Ok-Long-clause-ends g c = λ count first before far.
    let comes = rw c.in-Ok-Long.field-0-is at c.in-Ok-Long.ensures.comes in
    no_line (g.T.Party.stands c.args.party.now) (g.T.Party.talks c.args.party.now) (g.met.T.Party.told c.args.party.now) (g.T.Party.opening c.args.party.now) c.args.onward count first
    (g.S.Source.left c.args.source.now) before (g.K.Sink.held c.args.sink.now) far (g.S.Source.left c.read_line.new.source)
    (g.K.Sink.held c.answer_other-in-Ok-Long.new.sink) c.answer_other-in-Ok-Long.result
    (λ turns counted. TooLong (g.S.Source.left c.read_line.new.source) c.read_line.new.line.items comes) c.answer_other-in-Ok-Long.ensures.told

pub returns-in-Err-clause-ends : goal.returns-in-Err-clause-ends
returns-in-Err-clause-ends g c = λ count first before far.
    source_gone (g.T.Party.stands c.args.party.now) (g.T.Party.talks c.args.party.now) (g.met.T.Party.told c.args.party.now) (g.T.Party.opening c.args.party.now) c.args.onward count first
    (g.S.Source.left c.args.source.now) before (g.K.Sink.held c.args.sink.now) far (g.S.Source.left c.read_line.new.source) c.in-Err.ensures.begun.0 c.read_line.new.line.items c.in-Err.ensures.begun.1
