use Rattle.std.proofs.Common.{◌≡◌, ◌+◌, ◌-◌, ◌^◌, ℕ, List, refl, sym, ap, subst, ◌∙◌, arith}
use Rattle.std.specs.Io.KnownBytes.{Appends}
use Rattle.line_talk.specs.SoFar.{IsTalkSoFar}
use Rattle.emv_ports.specs.Growth.{AppendsFront}
use Rattle.line_talk.specs.Talk.{OpeningCut, Sides, TalkEnds, TalkSinkCount, TalkSourceCount, TooMany}
use Rattle.line_talk.specs.Turns.{Opening, onward_behind}
use Rattle.line_talk.proofs.Talking.{begun, no_line, weaker}
use Rattle.line_talk.proofs.talk.converse.Goals as goal

pub loop-line-init : goal.loop-line-init
loop-line-init g c = record {
  far =
      subst (λ (opening : Opening). IsTalkSoFar (g.T.Party.stands c.open-onward.new.self) opening c.open-onward.result 0 (g.S.Source.left c.args.source.now)
      (g.S.Source.left c.args.source.now) (g.K.Sink.held c.args.sink.now) (g.K.Sink.held c.write_all.new.sink)) c.open-onward.ensures.told
      (begun (g.T.Party.stands c.open-onward.new.self) (record { text = c.open-onward.new.text.items; onward = c.open-onward.result }) (g.S.Source.left c.args.source.now)
      (g.K.Sink.held c.args.sink.now) (g.K.Sink.held c.write_all.new.sink) c.open-onward.ensures.begun
      (subst (λ (t : List ℕ). Appends (g.K.Sink.held c.args.sink.now) (g.K.Sink.held c.write_all.new.sink) t) c.as_slice.ensures.value c.in-Ok.ensures.all));
  same = c.open-onward.ensures.same;
  source_calm = refl;
  sink_calm = c.in-Ok.ensures.cause.stays;
}

pub exchange-requires : goal.exchange-requires
exchange-requires g c = record {
  stands = (
    c.loop-line.invariant.far.turns,
    c.loop-line.invariant.far.stands,
    ap (λ (opening : Opening). onward_behind opening.onward c.loop-line.invariant.far.turns) c.loop-line.invariant.same.opening ∙ c.loop-line.invariant.far.onward_is,
  );
}

pub returns-in-Err-exchange-clause-ends : goal.returns-in-Err-exchange-clause-ends
returns-in-Err-exchange-clause-ends g c =
    let sides : Sides = record {
      first = g.S.Source.left c.args.source.now;
      left = g.S.Source.left c.exchange.new.source;
      before = g.K.Sink.held c.args.sink.now;
      held = g.K.Sink.held c.exchange.new.sink;
    } in
    weaker (g.T.Party.talks c.loop-line.party) (g.T.Party.talks c.args.party.now) c.loop-line.invariant.same.back (g.T.Party.opening c.args.party.now) sides c.in-Err-exchange.status
    (subst (λ (opening : Opening). TalkEnds (g.T.Party.talks c.loop-line.party) opening sides c.in-Err-exchange.status) c.loop-line.invariant.same.opening
    (c.in-Err-exchange.ensures.ends c.loop-line._line (g.S.Source.left c.args.source.now) (g.K.Sink.held c.args.sink.now)
    (subst (λ (opening : Opening). IsTalkSoFar (g.T.Party.stands c.loop-line.party) opening c.loop-line.onward c.loop-line._line (g.S.Source.left c.args.source.now)
    (g.S.Source.left c.loop-line.source) (g.K.Sink.held c.args.sink.now) (g.K.Sink.held c.loop-line.sink)) (sym c.loop-line.invariant.same.opening)
    c.loop-line.invariant.far)))

pub returns-in-Err-exchange-clause-source : goal.returns-in-Err-exchange-clause-source
returns-in-Err-exchange-clause-source g c =
    subst (λ (n : ℕ). TalkSourceCount n (g.S.Source.faults c.exchange.new.source) c.in-Err-exchange.status) c.loop-line.invariant.source_calm c.in-Err-exchange.ensures.source

pub returns-in-Err-exchange-clause-sink : goal.returns-in-Err-exchange-clause-sink
returns-in-Err-exchange-clause-sink g c =
    subst (λ (n : ℕ). TalkSinkCount n (g.K.Sink.faults c.exchange.new.sink) c.in-Err-exchange.status) c.loop-line.invariant.sink_calm c.in-Err-exchange.ensures.sink

pub loop-line-preserved : goal.loop-line-preserved
loop-line-preserved g c = record {
  far =
      subst (λ (opening : Opening). IsTalkSoFar (g.T.Party.stands c.exchange.new.party) opening c.in-Ok-exchange.then (c.loop-line._line + 1)
      (g.S.Source.left c.args.source.now) (g.S.Source.left c.exchange.new.source) (g.K.Sink.held c.args.sink.now) (g.K.Sink.held c.exchange.new.sink))
      c.loop-line.invariant.same.opening
      (c.in-Ok-exchange.ensures.goes c.loop-line._line (g.S.Source.left c.args.source.now) (g.K.Sink.held c.args.sink.now)
      (subst (λ (opening : Opening). IsTalkSoFar (g.T.Party.stands c.loop-line.party) opening c.loop-line.onward c.loop-line._line (g.S.Source.left c.args.source.now)
      (g.S.Source.left c.loop-line.source) (g.K.Sink.held c.args.sink.now) (g.K.Sink.held c.loop-line.sink)) (sym c.loop-line.invariant.same.opening)
      c.loop-line.invariant.far));
  same = record {
    opening = c.exchange.ensures.same.opening ∙ c.loop-line.invariant.same.opening;
    back = λ turns talks. c.loop-line.invariant.same.back turns (c.exchange.ensures.same.back turns talks);
  };
  source_calm = c.in-Ok-exchange.ensures.source ∙ c.loop-line.invariant.source_calm;
  sink_calm = c.in-Ok-exchange.ensures.sink ∙ c.loop-line.invariant.sink_calm;
}

pub returns-clause-ends : goal.returns-clause-ends
returns-clause-ends g c =
    let most : c.loop-line._line ≡ 2 ^ 64 - 1 = omega (arith, c.loop-line-test.false, c.loop-line.auto._line-end) in
    weaker (g.T.Party.talks c.loop-line.party) (g.T.Party.talks c.args.party.now) c.loop-line.invariant.same.back (g.T.Party.opening c.args.party.now) _ c.answer_other.result
    (no_line (g.T.Party.stands c.loop-line.party) (g.T.Party.talks c.loop-line.party) (g.met.T.Party.told c.loop-line.party) (g.T.Party.opening c.args.party.now)
    c.loop-line.onward c.loop-line._line (g.S.Source.left c.args.source.now) (g.S.Source.left c.loop-line.source) (g.K.Sink.held c.args.sink.now)
    (g.K.Sink.held c.loop-line.sink) c.loop-line.invariant.far (g.S.Source.left c.loop-line.source) (g.K.Sink.held c.answer_other.new.sink) c.answer_other.result
    (λ turns counted. TooMany (counted ∙ most)) c.answer_other.ensures.told)

pub returns-clause-source : goal.returns-clause-source
returns-clause-source g c =
    subst (λ (n : ℕ). TalkSourceCount (g.S.Source.faults c.args.source.now) n c.answer_other.result) (sym c.loop-line.invariant.source_calm)
    (c.answer_other.ensures.source (g.S.Source.faults c.args.source.now))

pub returns-clause-sink : goal.returns-clause-sink
returns-clause-sink g c = subst (λ (n : ℕ). TalkSinkCount n (g.K.Sink.faults c.answer_other.new.sink) c.answer_other.result) c.loop-line.invariant.sink_calm c.answer_other.ensures.count

pub returns-in-Err-clause-ends : goal.returns-in-Err-clause-ends
returns-in-Err-clause-ends g c =
    OpeningCut refl refl
    (subst (λ (t : List ℕ). AppendsFront (g.K.Sink.held c.args.sink.now) (g.K.Sink.held c.write_all.new.sink) t)
    (c.as_slice.ensures.value ∙ ap (λ (opening : Opening). opening.text) c.open-onward.ensures.told) c.in-Err.ensures.front)
