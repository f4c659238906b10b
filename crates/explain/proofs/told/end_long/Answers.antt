use Rattle.explain.specs.ReportSoFar.{way_in, stand_of}
use Rattle.explain.proofs.Coming.{so_far_long_at, stopped_long_at}
use Rattle.explain.proofs.told.end_long.Goals as goal

pub returns-in-Ok-clause-ok : goal.returns-in-Ok-clause-ok
returns-in-Ok-clause-ok g c = λ seen first s.
    so_far_long_at (way_in c.args.teller.now) (stand_of c.args.teller.now) c.args.teller.now.line.items seen c.as_slice.result.now c.clear.new.self.items first
    (g.K.Sink.held c.args.sink.now) (g.K.Sink.held c.put_end.new.sink) c.as_slice.ensures.value c.clear.ensures c.requires s c.in-Ok.ensures.all

pub returns-in-Err-clause-err : goal.returns-in-Err-clause-err
returns-in-Err-clause-err g c = λ seen first s.
    stopped_long_at (way_in c.args.teller.now) (stand_of c.args.teller.now) c.args.teller.now.line.items seen c.as_slice.result.now first
    (g.K.Sink.held c.args.sink.now) (g.K.Sink.held c.put_end.new.sink) c.as_slice.ensures.value c.requires s c.in-Err.ensures.front
