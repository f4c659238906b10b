use Rattle.std.proofs.Common.{[], ◌∷◌, ◌++◌, cond, subst, sym, Bool}
use Rattle.std.specs.Io.KnownBytes.{Appends}
use Rattle.emv_ports.specs.Growth.{AppendsFront}
use Rattle.emv_ports.proofs.Growth.{Appends-none}
use Rattle.std.proofs.lemmas.Result.{on_ok_weaker, on_err_weaker}
use Rattle.explain.proofs.told.put_shown.Goals as goal

pub returns-then-shown-clause-all : goal.returns-then-shown-clause-all
returns-then-shown-clause-all g c =
    on_ok_weaker c.put_told.result (λ more. subst (λ (a : Bool). Appends (g.K.Sink.held c.args.sink.now) (g.K.Sink.held c.put_told.new.sink) (cond a ((c.args.text.now ++ 10 ∷ []) ++ c.args.words.now) [])) (sym c.if-shown.true) more)
    c.put_told.ensures.all

pub returns-then-shown-clause-front : goal.returns-then-shown-clause-front
returns-then-shown-clause-front g c =
    on_err_weaker c.put_told.result (λ more. subst (λ (a : Bool). AppendsFront (g.K.Sink.held c.args.sink.now) (g.K.Sink.held c.put_told.new.sink) (cond a ((c.args.text.now ++ 10 ∷ []) ++ c.args.words.now) [])) (sym c.if-shown.true) more)
    c.put_told.ensures.front

pub returns-else-shown-clause-all : goal.returns-else-shown-clause-all
returns-else-shown-clause-all g c =
    subst (λ (a : Bool). Appends (g.K.Sink.held c.args.sink.now) (g.K.Sink.held c.args.sink.now) (cond a ((c.args.text.now ++ 10 ∷ []) ++ c.args.words.now) [])) (sym c.if-shown.false)
    (Appends-none (g.K.Sink.held c.args.sink.now))
