use Rattle.explain.specs.ReportSoFar.{way_in, stand_of}
use Rattle.explain.proofs.Coming.{ended_at, stopped_at}
use Rattle.std.proofs.lemmas.Result.{on_ok_weaker, on_err_weaker}
use Rattle.explain.proofs.told.end.Goals as goal

pub returns-clause-ok : goal.returns-clause-ok
returns-clause-ok g c =
    on_ok_weaker c.put_rest.result
    (λ more. λ seen first s.
    ended_at (way_in c.args.teller.now) (stand_of c.args.teller.now) c.args.teller.now.line.items seen c.as_slice.result.now first
    (g.K.Sink.held c.args.sink.now) (g.K.Sink.held c.put_rest.new.sink) c.as_slice.ensures.value s more)
    c.put_rest.ensures.all

pub returns-clause-err : goal.returns-clause-err
returns-clause-err g c =
    on_err_weaker c.put_rest.result
    (λ more. λ seen first s.
    stopped_at (way_in c.args.teller.now) (stand_of c.args.teller.now) c.args.teller.now.line.items seen c.as_slice.result.now first
    (g.K.Sink.held c.args.sink.now) (g.K.Sink.held c.put_rest.new.sink) c.as_slice.ensures.value s more)
    c.put_rest.ensures.front
