use Rattle.std.proofs.Common.{[], ◌∷◌, ◌++◌, subst, sym, Bool}
use Rattle.std.specs.Io.KnownBytes.{Appends}
use Rattle.emv_ports.specs.Growth.{AppendsFront}
use Rattle.emv_ports.proofs.Growth.{Appends-none}
use Rattle.explain.specs.ToldLines.{rest_behind_lines}
use Rattle.std.proofs.lemmas.Result.{on_ok_weaker, on_err_weaker}
use Rattle.explain.proofs.told.put_end.Goals as goal

pub returns-then-all-clause-all : goal.returns-then-all-clause-all
returns-then-all-clause-all g c =
    on_ok_weaker c.put_line.result (λ more. subst (λ (a : Bool). Appends (g.K.Sink.held c.args.sink.now) (g.K.Sink.held c.put_line.new.sink) (rest_behind_lines a (c.args.text.now ++ 10 ∷ []))) (sym c.if-all.true) more)
    c.put_line.ensures.all

pub returns-then-all-clause-front : goal.returns-then-all-clause-front
returns-then-all-clause-front g c =
    on_err_weaker c.put_line.result (λ more. subst (λ (a : Bool). AppendsFront (g.K.Sink.held c.args.sink.now) (g.K.Sink.held c.put_line.new.sink) (rest_behind_lines a (c.args.text.now ++ 10 ∷ []))) (sym c.if-all.true) more)
    c.put_line.ensures.front

pub returns-else-all-clause-all : goal.returns-else-all-clause-all
returns-else-all-clause-all g c =
    subst (λ (a : Bool). Appends (g.K.Sink.held c.args.sink.now) (g.K.Sink.held c.args.sink.now) (rest_behind_lines a (c.args.text.now ++ 10 ∷ []))) (sym c.if-all.false)
    (Appends-none (g.K.Sink.held c.args.sink.now))
