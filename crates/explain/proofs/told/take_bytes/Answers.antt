use Rattle.std.proofs.Common.{ℕ, List, ◌++◌, take, refl, sym, subst, ◌∙◌}
use Rattle.std.proofs.lemmas.List.{append-nil, take_all}
use Rattle.explain.specs.ReportSoFar.{IsReportSoFar, TellingWasStopped, way_in, stand_of}
use Rattle.explain.specs.ToldLines.{Way}
use Rattle.explain.proofs.Coming.{so_far_take, stopped_take}
use Rattle.explain.proofs.told.take_bytes.Goals as goal

pub loop-byte-init : goal.loop-byte-init
loop-byte-init g c = record {
  so_far = λ seen first s.
      subst (λ (t : List ℕ). IsReportSoFar (way_in c.args.teller.now) c.args.teller.now.line.items (stand_of c.args.teller.now) t first (g.K.Sink.held c.args.sink.now)) (sym (append-nil seen)) s;
  way = refl;
  calm = refl;
}

pub loop-byte-preserved : goal.loop-byte-preserved
loop-byte-preserved g c = record {
  so_far = λ seen first s.
      so_far_take (way_in c.take_byte.new.teller) (stand_of c.take_byte.new.teller) c.take_byte.new.teller.line.items seen c.args.bytes.now c.loop-byte.byte-index _ first
      (g.K.Sink.held c.take_byte.new.sink) c.loop-byte-test.true refl
      (c.in-Ok.ensures.ok (seen ++ take c.loop-byte.byte-index c.args.bytes.now) first (c.loop-byte.invariant.so_far seen first s));
  way = c.in-Ok.ensures.way ∙ c.loop-byte.invariant.way;
  calm = c.in-Ok.ensures.stop ∙ c.loop-byte.invariant.calm;
}

pub returns-in-Err-clause-err : goal.returns-in-Err-clause-err
returns-in-Err-clause-err g c = λ seen first s.
    let part = c.in-Err.ensures.err (seen ++ take c.loop-byte.byte-index c.args.bytes.now) first (c.loop-byte.invariant.so_far seen first s) in
    subst (λ (a : Way). (taken : ℕ) × TellingWasStopped a (seen ++ take taken c.args.bytes.now) first (g.K.Sink.held c.take_byte.new.sink)) c.loop-byte.invariant.way
    (stopped_take (way_in c.loop-byte.teller) seen c.args.bytes.now c.loop-byte.byte-index _ part.0 first (g.K.Sink.held c.take_byte.new.sink) c.loop-byte-test.true refl part.1)

pub returns-clause-ok : goal.returns-clause-ok
returns-clause-ok g c = λ seen first s.
    subst (λ (t : List ℕ). IsReportSoFar (way_in c.loop-byte.teller) c.loop-byte.teller.line.items (stand_of c.loop-byte.teller) (seen ++ t) first (g.K.Sink.held c.loop-byte.sink))
    (take_all c.loop-byte.byte-index c.args.bytes.now c.loop-byte-test.false) (c.loop-byte.invariant.so_far seen first s)
