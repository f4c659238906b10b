use Rattle.std.proofs.Common.{◌∙◌, ◌++◌, ℕ, List, ap, append_assoc}
use Rattle.std.specs.Prelude.{codes}
use Rattle.trace_check.specs.QuestionText as spec
use Rattle.trace_check.proofs.why.first.Goals as goal

pub returns-clause-text : goal.returns-clause-text
unfolding spec.first_text
returns-clause-text c =
    let before = c.args.out.now.items in
    let word = codes "why first kind " in
    let kind = spec.kind_word c.args.wanted in
    let results = spec.results_text c.args.basis.now in
    let issuer = spec.codes_text spec.issuer_word c.args.basis.now.issuer in
    let terminal = spec.codes_text spec.terminal_word c.args.basis.now.terminal in
    c.all_codes-2.ensures.text
    ∙ ap (λ (l : List ℕ). l ++ terminal)
    (c.all_codes.ensures.text
    ∙ ap (λ (l : List ℕ). l ++ issuer)
    (c.results.ensures.text
    ∙ ap (λ (l : List ℕ). l ++ results)
    (c.kind.ensures.text
    ∙ ap (λ (l : List ℕ). l ++ kind) c.append.ensures.text
    ∙ append_assoc before word kind)
    ∙ append_assoc before (word ++ kind) results)
    ∙ append_assoc before ((word ++ kind) ++ results) issuer)
    ∙ append_assoc before (((word ++ kind) ++ results) ++ issuer) terminal
