use Rattle.std.proofs.Common.{List, [], ◌∷◌, ◌++◌, ℕ, subst, sym}
use Rattle.explain.specs.ReportSoFar.{IsReportSoFar, way_in, stand_of}
use Rattle.explain.proofs.Coming.{stopped_push}
use Rattle.explain.proofs.told.take_inner.Goals as goal

pub returns-in-Ok-clause-ok : goal.returns-in-Ok-clause-ok
returns-in-Ok-clause-ok g c = λ seen first s.
    subst (λ (t : List ℕ). IsReportSoFar (way_in c.make_room.new.teller) t (stand_of c.make_room.new.teller) (seen ++ c.args.byte ∷ []) first (g.K.Sink.held c.make_room.new.sink)) (sym c.push.ensures.items)
    (c.in-Ok.ensures.ok seen first c.args.byte c.requires s)

pub returns-in-Err-clause-err : goal.returns-in-Err-clause-err
returns-in-Err-clause-err g c = λ seen first s.
    stopped_push (way_in c.args.teller.now) (stand_of c.args.teller.now) c.args.teller.now.line.items seen c.args.byte first
    (g.K.Sink.held c.args.sink.now) (g.K.Sink.held c.make_room.new.sink) c.requires s c.in-Err.ensures.front
