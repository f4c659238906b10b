use Rattle.std.proofs.Common.{◌-◌, List, ℕ, ◌∷◌, Option, drop, take, length, map, string_bytes, sym, ap, ◌∙◌, arith, length-drop}
use Rattle.std.proofs.lemmas.List.{take_all}
use Rattle.narrator.specs.State.{Manner}
use Rattle.explain.specs.Grammar.{◌>>=◌, option_with_argument}
use Rattle.explain.specs.Taking.{options_behind}
use Rattle.explain.specs.ToldLines.{manner_in}
use Rattle.explain.proofs.Taking.{behind_with, behind_unread, behind_last, refuses_behind, refuses_as, words_at, no_words}
use Rattle.explain.proofs.options.take_with.Goals as goal

pub returns-in-empty-clause-err : goal.returns-in-empty-clause-err
returns-in-empty-clause-err c = λ longer.
    ap (λ (words : List (List ℕ)). options_behind (manner_in c.args.options.now) (string_bytes c.args.word.now ∷ words)) (no_words string_bytes c.args.rest.now (omega arith))
    ∙ behind_last (manner_in c.args.options.now) (string_bytes c.args.word.now) longer

pub returns-in-Ok-clause-ok : goal.returns-in-Ok-clause-ok
returns-in-Ok-clause-ok c = λ longer.
    let rest = c.args.rest.now in
    let behind = take (length rest - 1) (drop 1 rest) in
    let is = words_at string_bytes rest behind c.argument-item.result (omega arith) c.argument-item.is (take_all (length rest - 1) (drop 1 rest) (omega (arith, length-drop 1 rest))) in
    ap (λ (words : List (List ℕ)). options_behind (manner_in c.args.options.now) (string_bytes c.args.word.now ∷ words)) is
    ∙ behind_with (manner_in c.args.options.now) (string_bytes c.args.word.now) (string_bytes c.argument-item.result) (map string_bytes behind) c.in-Some.given longer
    (ap (λ (text : List ℕ). option_with_argument (string_bytes c.args.word.now) text) (sym c.as_bytes.ensures.value) ∙ sym c.in-Some.ensures)
    ∙ ap (λ (found : Option Manner). found >>= (λ next. options_behind next (map string_bytes behind))) c.in-Ok.ensures.ok

pub returns-in-Err-clause-err : goal.returns-in-Err-clause-err
returns-in-Err-clause-err c = λ longer.
    let rest = c.args.rest.now in
    let behind = take (length rest - 1) (drop 1 rest) in
    let is = words_at string_bytes rest behind c.argument-item.result (omega arith) c.argument-item.is (take_all (length rest - 1) (drop 1 rest) (omega (arith, length-drop 1 rest))) in
    refuses_as c.in-Err.no _ _
    (ap (λ (words : List (List ℕ)). options_behind (manner_in c.args.options.now) (string_bytes c.args.word.now ∷ words)) is
    ∙ behind_with (manner_in c.args.options.now) (string_bytes c.args.word.now) (string_bytes c.argument-item.result) (map string_bytes behind) c.in-Some.given longer
    (ap (λ (text : List ℕ). option_with_argument (string_bytes c.args.word.now) text) (sym c.as_bytes.ensures.value) ∙ sym c.in-Some.ensures))
    (refuses_behind c.in-Err.no _ (λ next. options_behind next (map string_bytes behind)) c.in-Err.ensures.err)

pub returns-in-None-clause-err : goal.returns-in-None-clause-err
returns-in-None-clause-err c = λ longer.
    let rest = c.args.rest.now in
    let behind = take (length rest - 1) (drop 1 rest) in
    let is = words_at string_bytes rest behind c.argument-item.result (omega arith) c.argument-item.is (take_all (length rest - 1) (drop 1 rest) (omega (arith, length-drop 1 rest))) in
    ap (λ (words : List (List ℕ)). options_behind (manner_in c.args.options.now) (string_bytes c.args.word.now ∷ words)) is
    ∙ behind_unread (manner_in c.args.options.now) (string_bytes c.args.word.now) (string_bytes c.argument-item.result) (map string_bytes behind) longer
    (ap (λ (text : List ℕ). option_with_argument (string_bytes c.args.word.now) text) (sym c.as_bytes.ensures.value) ∙ sym c.in-None.ensures)
