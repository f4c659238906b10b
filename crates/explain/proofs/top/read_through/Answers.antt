use Rattle.std.proofs.Common.{ℕ, ◌≡◌, ◌∙◌, take, refl, sym, subst, arith}
use Rattle.std.specs.Io.KnownBytes.{Consumes}
use Rattle.std.proofs.lemmas.List.{length-take-le}
use Rattle.emv_ports.specs.Causes.{Rose}
use Rattle.explain.specs.ReportSoFar.{way_in, stand_of}
use Rattle.explain.specs.Reading.{ReadSome}
use Rattle.explain.specs.ToldLines.{Way}
use Rattle.explain.proofs.Reading.{IsReading, reading_start, reading_more, reading_end, reading_full, reading_broken, reading_stopped}
use Rattle.explain.proofs.top.read_through.Goals as goal

pub loop-left-init : goal.loop-left-init
loop-left-init g c = record {
  reading = λ first s.
      reading_start (way_in c.args.teller.now) (stand_of c.args.teller.now) c.args.teller.now.line.items (g.S.Source.left c.args.source.now) first (g.K.Sink.held c.args.sink.now) s;
  way = refl;
  source = refl;
  sink = refl;
}

pub returns-in-Ok-eq0-clause-ok : goal.returns-in-Ok-eq0-clause-ok
returns-in-Ok-eq0-clause-ok g c = λ first s.
    let e : c.in-Ok-eq0.field-0 ≡ 0 = omega arith in
    reading_end (way_in c.loop-left.teller) (stand_of c.loop-left.teller) c.loop-left.teller.line.items c.loop-left.left (g.S.Source.left c.args.source.now) (g.S.Source.left c.loop-left.source) (g.S.Source.left c.read.new.self) first (g.K.Sink.held c.loop-left.sink) (c.loop-left.invariant.reading first s)
    (subst (λ (n : ℕ). Consumes (g.S.Source.left c.loop-left.source) (g.S.Source.left c.read.new.self) (take n c.read.new.out)) e c.in-Ok-eq0.ensures.bytes.0)
    (c.in-Ok-eq0.ensures.bytes.1 e (omega (arith, c.read.auto.out)))

pub loop-left-preserved : goal.loop-left-preserved
loop-left-preserved g c = record {
  reading = λ first s.
      subst (λ (r : ℕ). IsReading (way_in c.take_bytes.new.teller) c.take_bytes.new.teller.line.items (stand_of c.take_bytes.new.teller) (g.S.Source.left c.args.source.now) (g.S.Source.left c.read.new.self) first (g.K.Sink.held c.take_bytes.new.sink) r) (sym c.saturating_sub-left.ensures)
      (reading_more (way_in c.loop-left.teller) (stand_of c.loop-left.teller) (way_in c.take_bytes.new.teller) (stand_of c.take_bytes.new.teller)
      c.loop-left.teller.line.items c.take_bytes.new.teller.line.items (take c.in-Ok.count c.read.new.out) c.in-Ok.count c.loop-left.left
      (g.S.Source.left c.args.source.now) (g.S.Source.left c.loop-left.source) (g.S.Source.left c.read.new.self) first (g.K.Sink.held c.loop-left.sink) (g.K.Sink.held c.take_bytes.new.sink) (length-take-le c.in-Ok.count c.read.new.out (omega (arith, c.in-Ok.ensures.bound)))
      (c.loop-left.invariant.reading first s) c.in-Ok.ensures.bytes.0 c.in-Ok-take_bytes.ensures.ok);
  way = c.in-Ok-take_bytes.ensures.way ∙ c.loop-left.invariant.way;
  source = c.in-Ok.ensures.cause.stays ∙ c.loop-left.invariant.source;
  sink = c.in-Ok-take_bytes.ensures.stop ∙ c.loop-left.invariant.sink;
}

pub returns-in-Err-Sink-clause-err : goal.returns-in-Err-Sink-clause-err
returns-in-Err-Sink-clause-err g c = λ first s.
    subst (λ (a : Way). ReadSome a (g.S.Source.left c.args.source.now) (g.S.Source.left c.read.new.self) first (g.K.Sink.held c.take_bytes.new.sink)) c.loop-left.invariant.way
    (reading_stopped (way_in c.loop-left.teller) (stand_of c.loop-left.teller) c.loop-left.teller.line.items (take c.in-Ok.count c.read.new.out) c.loop-left.left
    (g.S.Source.left c.args.source.now) (g.S.Source.left c.loop-left.source) (g.S.Source.left c.read.new.self) first (g.K.Sink.held c.loop-left.sink) (g.K.Sink.held c.take_bytes.new.sink) (c.loop-left.invariant.reading first s) c.in-Ok.ensures.bytes.0 c.in-Err-Sink.ensures.err)

pub returns-in-Err-OutOfMemory-clause-err : goal.returns-in-Err-OutOfMemory-clause-err
returns-in-Err-OutOfMemory-clause-err g c = λ first s.
    subst (λ (a : Way). ReadSome a (g.S.Source.left c.args.source.now) (g.S.Source.left c.read.new.self) first (g.K.Sink.held c.take_bytes.new.sink)) c.loop-left.invariant.way
    (reading_stopped (way_in c.loop-left.teller) (stand_of c.loop-left.teller) c.loop-left.teller.line.items (take c.in-Ok.count c.read.new.out) c.loop-left.left
    (g.S.Source.left c.args.source.now) (g.S.Source.left c.loop-left.source) (g.S.Source.left c.read.new.self) first (g.K.Sink.held c.loop-left.sink) (g.K.Sink.held c.take_bytes.new.sink) (c.loop-left.invariant.reading first s) c.in-Ok.ensures.bytes.0 c.in-Err-OutOfMemory.ensures.err)

pub returns-in-Err-Sink-clause-sink : goal.returns-in-Err-Sink-clause-sink
returns-in-Err-Sink-clause-sink g c = subst (λ (n : ℕ). Rose n (g.K.Sink.faults c.take_bytes.new.sink)) c.loop-left.invariant.sink
    (rw c.in-Err-Sink.field-0-is at c.in-Err-Sink.ensures.stop)

pub returns-in-Err-clause-source : goal.returns-in-Err-clause-source
returns-in-Err-clause-source g c = subst (λ (n : ℕ). Rose n (g.S.Source.faults c.read.new.self)) c.loop-left.invariant.source c.in-Err.ensures.cause.failed

pub returns-in-Err-clause-err : goal.returns-in-Err-clause-err
returns-in-Err-clause-err g c = λ first s.
    subst (λ (a : Way). ReadSome a (g.S.Source.left c.args.source.now) (g.S.Source.left c.read.new.self) first (g.K.Sink.held c.loop-left.sink)) c.loop-left.invariant.way
    (reading_broken (way_in c.loop-left.teller) (stand_of c.loop-left.teller) c.loop-left.teller.line.items c.loop-left.left (g.S.Source.left c.args.source.now) (g.S.Source.left c.loop-left.source) (g.S.Source.left c.read.new.self) first (g.K.Sink.held c.loop-left.sink) (c.loop-left.invariant.reading first s) c.in-Err.ensures.bytes)

pub returns-clause-ok : goal.returns-clause-ok
returns-clause-ok g c = λ first s.
    reading_full (way_in c.loop-left.teller) (stand_of c.loop-left.teller) c.loop-left.teller.line.items c.loop-left.left (g.S.Source.left c.args.source.now) (g.S.Source.left c.loop-left.source) first (g.K.Sink.held c.loop-left.sink) (c.loop-left.invariant.reading first s) c.loop-left-test.false
