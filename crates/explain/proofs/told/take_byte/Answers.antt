use Rattle.std.proofs.Common.{ℕ, List, [], ◌∷◌, ◌++◌, OnOk, OnErr, take, subst, sym}
use Rattle.std.proofs.lemmas.Result.{on_err_weaker}
use Rattle.std.specs.declared.option.Option.{Option}
use Rattle.explain.specs.ReportSoFar.{IsReportSoFar, TellingWasStopped, way_in, stand_of}
use Rattle.explain.proofs.told.take_byte.Goals as goal

pub returns-then-byte-ne10-clause-err : goal.returns-then-byte-ne10-clause-err
returns-then-byte-ne10-clause-err g c = on_err_weaker c.take_inner.result (λ stops. λ seen first s. (1, stops seen first s)) c.take_inner.ensures.err

pub returns-then-teller-clause-ok : goal.returns-then-teller-clause-ok
returns-then-teller-clause-ok g c =
    subst (λ (b : ℕ). OnOk c.end_long.result ((seen : List ℕ) (first : Option (List ℕ)) → IsReportSoFar (way_in c.args.teller.now) c.args.teller.now.line.items (stand_of c.args.teller.now) seen first (g.K.Sink.held c.args.sink.now)
    → IsReportSoFar (way_in c.end_long.new.teller) c.end_long.new.teller.line.items (stand_of c.end_long.new.teller) (seen ++ b ∷ []) first (g.K.Sink.held c.end_long.new.sink))) (sym c.if-byte-ne10.false) c.end_long.ensures.ok

pub returns-then-teller-clause-err : goal.returns-then-teller-clause-err
returns-then-teller-clause-err g c =
    subst (λ (b : ℕ). OnErr c.end_long.result ((seen : List ℕ) (first : Option (List ℕ)) → IsReportSoFar (way_in c.args.teller.now) c.args.teller.now.line.items (stand_of c.args.teller.now) seen first (g.K.Sink.held c.args.sink.now)
    → (taken : ℕ) × TellingWasStopped (way_in c.args.teller.now) (seen ++ take taken (b ∷ [])) first (g.K.Sink.held c.end_long.new.sink))) (sym c.if-byte-ne10.false)
    (on_err_weaker c.end_long.result (λ stops. λ seen first s. (1, stops seen first s)) c.end_long.ensures.err)

pub returns-else-teller-clause-ok : goal.returns-else-teller-clause-ok
returns-else-teller-clause-ok g c =
    subst (λ (b : ℕ). OnOk c.end_short.result ((seen : List ℕ) (first : Option (List ℕ)) → IsReportSoFar (way_in c.args.teller.now) c.args.teller.now.line.items (stand_of c.args.teller.now) seen first (g.K.Sink.held c.args.sink.now)
    → IsReportSoFar (way_in c.end_short.new.teller) c.end_short.new.teller.line.items (stand_of c.end_short.new.teller) (seen ++ b ∷ []) first (g.K.Sink.held c.end_short.new.sink))) (sym c.if-byte-ne10.false) c.end_short.ensures.ok

pub returns-else-teller-clause-err : goal.returns-else-teller-clause-err
returns-else-teller-clause-err g c =
    subst (λ (b : ℕ). OnErr c.end_short.result ((seen : List ℕ) (first : Option (List ℕ)) → IsReportSoFar (way_in c.args.teller.now) c.args.teller.now.line.items (stand_of c.args.teller.now) seen first (g.K.Sink.held c.args.sink.now)
    → (taken : ℕ) × TellingWasStopped (way_in c.args.teller.now) (seen ++ take taken (b ∷ [])) first (g.K.Sink.held c.end_short.new.sink))) (sym c.if-byte-ne10.false) c.end_short.ensures.err
