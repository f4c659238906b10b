use Rattle.std.proofs.Common.{[], ◌∷◌, ◌++◌}
use Rattle.emv_ports.proofs.Growth.{Appends-more, AppendsFront-first, AppendsFront-second}
use Rattle.std.proofs.lemmas.Result.{on_ok_weaker, on_err_weaker}
use Rattle.explain.proofs.told.put_told.Goals as goal

pub returns-in-Ok-clause-all : goal.returns-in-Ok-clause-all
returns-in-Ok-clause-all g c =
    on_ok_weaker c.put.result (λ more. Appends-more (g.K.Sink.held c.args.sink.now) (g.K.Sink.held c.put_line.new.sink) (g.K.Sink.held c.put.new.sink) (c.args.text.now ++ 10 ∷ []) c.args.words.now c.in-Ok.ensures.all more)
    c.put.ensures.all

pub returns-in-Ok-clause-front : goal.returns-in-Ok-clause-front
returns-in-Ok-clause-front g c =
    on_err_weaker c.put.result (λ more. AppendsFront-second (g.K.Sink.held c.args.sink.now) (g.K.Sink.held c.put_line.new.sink) (g.K.Sink.held c.put.new.sink) (c.args.text.now ++ 10 ∷ []) c.args.words.now c.in-Ok.ensures.all more)
    c.put.ensures.front

pub returns-in-Err-clause-front : goal.returns-in-Err-clause-front
returns-in-Err-clause-front g c = AppendsFront-first (g.K.Sink.held c.args.sink.now) (g.K.Sink.held c.put_line.new.sink) (c.args.text.now ++ 10 ∷ []) c.args.words.now c.in-Err.ensures.front
