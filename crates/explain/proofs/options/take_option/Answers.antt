use Rattle.std.proofs.Common.{Option, map, string_bytes, sym, ap, ◌∙◌}
use Rattle.narrator.specs.State.{Manner}
use Rattle.explain.specs.Grammar.{◌>>=◌}
use Rattle.explain.specs.Taking.{options_behind}
use Rattle.explain.specs.ToldLines.{manner_in}
use Rattle.explain.proofs.Taking.{behind_alone, refuses_behind, refuses_as}
use Rattle.explain.proofs.options.take_option.Goals as goal

pub returns-in-Ok-clause-ok : goal.returns-in-Ok-clause-ok
returns-in-Ok-clause-ok c =
    let rest = map string_bytes c.args.rest.now in
    behind_alone (manner_in c.args.options.now) (string_bytes c.args.word.now) rest c.in-Some.given (sym c.in-Some.ensures)
    ∙ ap (λ (found : Option Manner). found >>= (λ next. options_behind next rest)) c.in-Ok.ensures.ok

pub returns-in-Err-clause-err : goal.returns-in-Err-clause-err
returns-in-Err-clause-err c =
    let rest = map string_bytes c.args.rest.now in
    refuses_as c.in-Err.no _ _
    (behind_alone (manner_in c.args.options.now) (string_bytes c.args.word.now) rest c.in-Some.given (sym c.in-Some.ensures))
    (refuses_behind c.in-Err.no _ (λ next. options_behind next rest) c.in-Err.ensures.err)
