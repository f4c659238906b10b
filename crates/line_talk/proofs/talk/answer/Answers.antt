use Rattle.std.proofs.Common.{ℕ, List, subst}
use Rattle.std.specs.Io.KnownBytes.{Appends}
use Rattle.emv_ports.specs.Growth.{AppendsFront}
use Rattle.line_talk.specs.Turns.{Turn}
use Rattle.line_talk.proofs.Talking.{answer_cut, goes_on, unanswered}
use Rattle.line_talk.proofs.talk.answer.Goals as goal

pub returns-in-Ok-write_all-clause-goes : goal.returns-in-Ok-write_all-clause-goes
returns-in-Ok-write_all-clause-goes g c = λ onward count first left later before goes far comes.
    let one : Turn = record { line = c.args.line.now; answer = c.answer.new.text.items; onward = c.in-Ok.onward } in
    goes_on (g.T.Party.stands c.args.party.now) (g.T.Party.talks c.args.party.now) (g.met.T.Party.told c.args.party.now) (g.T.Party.opening c.args.party.now) onward count first left before
    (g.K.Sink.held c.args.sink.now) far (g.T.Party.stands c.answer.new.self) one later comes goes c.in-Ok.ensures.turn (g.K.Sink.held c.write_all.new.sink)
    (subst (λ (t : List ℕ). Appends (g.K.Sink.held c.args.sink.now) (g.K.Sink.held c.write_all.new.sink) t) c.as_slice.ensures.value c.in-Ok-write_all.ensures.all)

pub returns-in-Ok-clause-ends : goal.returns-in-Ok-clause-ends
returns-in-Ok-clause-ends g c = λ onward count first left later before goes far comes.
    let one : Turn = record { line = c.args.line.now; answer = c.answer.new.text.items; onward = c.in-Ok.onward } in
    answer_cut (g.T.Party.stands c.args.party.now) (g.T.Party.talks c.args.party.now) (g.met.T.Party.told c.args.party.now) (g.T.Party.opening c.args.party.now) onward count first left before
    (g.K.Sink.held c.args.sink.now) far (g.T.Party.stands c.answer.new.self) one later comes goes c.in-Ok.ensures.turn (g.K.Sink.held c.write_all.new.sink)
    (λ turns stands. c.answer.ensures.same.back turns (g.met.T.Party.told c.answer.new.self turns stands))
    (subst (λ (t : List ℕ). AppendsFront (g.K.Sink.held c.args.sink.now) (g.K.Sink.held c.write_all.new.sink) t) c.as_slice.ensures.value c.in-Err-write_all.ensures.front)

pub returns-clause-ends : goal.returns-clause-ends
returns-clause-ends g c = λ onward count first left later before goes far comes.
    unanswered (g.T.Party.stands c.args.party.now) (g.T.Party.talks c.args.party.now) (g.met.T.Party.told c.args.party.now) (g.T.Party.opening c.args.party.now) onward count first left before
    (g.K.Sink.held c.args.sink.now) far later c.args.line.now comes
