use Rattle.std.proofs.Common.{◌≡◌, ℕ, List, ◌++◌, take}
use Rattle.std.specs.declared.option.Option.{Option}
use Rattle.explain.specs.ReportSoFar.{IsReportSoFar, way_in, stand_of}
use Rattle.explain.proofs.told.take_bytes.Given as goal

abbrev pub invariant-loop-byte : goal.invariant-loop-byte
invariant-loop-byte g l = record {
  so_far : (seen : List ℕ) (first : Option (List ℕ)) → IsReportSoFar (way_in l.fn.teller) l.fn.teller.line.items (stand_of l.fn.teller) seen first (g.K.Sink.held l.fn.sink)
      → IsReportSoFar (way_in l.teller) l.teller.line.items (stand_of l.teller) (seen ++ take l.byte-index l.bytes) first (g.K.Sink.held l.sink);
  way : way_in l.teller ≡ way_in l.fn.teller;
  calm : g.K.Sink.faults l.sink ≡ g.K.Sink.faults l.fn.sink;
}
