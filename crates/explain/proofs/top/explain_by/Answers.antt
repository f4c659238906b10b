use Rattle.std.proofs.Common.{OnOk, OnErr, subst}
use Rattle.explain.specs.ToldLines.{Way, way_of, Explained, BrokenOff}
use Rattle.explain.proofs.Reading.{broken_start}
use Rattle.explain.proofs.top.explain_by.Goals as goal

pub returns-in-Ok-clause-ok : goal.returns-in-Ok-clause-ok
returns-in-Ok-clause-ok g c =
    subst (λ (a : Way). OnOk c.explain.result (Explained a (g.S.Source.left c.args.source.now) (g.S.Source.left c.explain.new.source) (g.K.Sink.held c.args.sink.now) (g.K.Sink.held c.explain.new.sink)))
    c.in-Ok.ensures.way c.explain.ensures.ok

pub returns-in-Ok-clause-err : goal.returns-in-Ok-clause-err
returns-in-Ok-clause-err g c =
    subst (λ (a : Way). OnErr c.explain.result (BrokenOff a (g.S.Source.left c.args.source.now) (g.S.Source.left c.explain.new.source) (g.K.Sink.held c.args.sink.now) (g.K.Sink.held c.explain.new.sink)))
    c.in-Ok.ensures.way c.explain.ensures.err

pub returns-in-Err-clause-err : goal.returns-in-Err-clause-err
returns-in-Err-clause-err g c = broken_start (way_of c.args.options) (g.S.Source.left c.args.source.now) (g.K.Sink.held c.args.sink.now)
