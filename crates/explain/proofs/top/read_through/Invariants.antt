use Rattle.std.proofs.Common.{◌≡◌, ℕ, List, []}
use Rattle.std.specs.declared.option.Option.{Option}
use Rattle.explain.specs.ReportSoFar.{IsReportSoFar, way_in, stand_of}
use Rattle.explain.proofs.Reading.{IsReading}
use Rattle.explain.proofs.top.read_through.Given as goal

abbrev pub invariant-loop-left : goal.invariant-loop-left
invariant-loop-left g l = record {
  reading : (first : Option (List ℕ)) → IsReportSoFar (way_in l.fn.teller) l.fn.teller.line.items (stand_of l.fn.teller) [] first (g.K.Sink.held l.fn.sink)
      → IsReading (way_in l.teller) l.teller.line.items (stand_of l.teller) (g.S.Source.left l.fn.source) (g.S.Source.left l.source) first (g.K.Sink.held l.sink) l.left;
  way : way_in l.teller ≡ way_in l.fn.teller;
  source : g.S.Source.faults l.source ≡ g.S.Source.faults l.fn.source;
  sink : g.K.Sink.faults l.sink ≡ g.K.Sink.faults l.fn.sink;
}

abbrev pub decreases-loop-left : goal.decreases-loop-left
decreases-loop-left g l = l.left
