use Rattle.std.proofs.Common.{ℕ, ◌+◌, ◌-◌, Option, length, drop, ap, ◌∙◌, arith, length-drop}
use Rattle.std.proofs.lemmas.List.{take_all}
use Rattle.report_lines.specs.Parts.{split_at, split_at_place}
use Rattle.report_lines.proofs.parts.split_at_byte.Goals as goal

pub returns-in-Some-clause-before : goal.returns-in-Some-clause-before
unfolding split_at
returns-in-Some-clause-before c = ap (λ (found : Option ℕ). (split_at_place c.args.text.now found).0) c.in-Some.ensures.place

pub returns-in-Some-clause-behind : goal.returns-in-Some-clause-behind
unfolding split_at
returns-in-Some-clause-behind c =
    take_all (length c.args.text.now - (c.in-Some.place + 1)) (drop (c.in-Some.place + 1) c.args.text.now)
    (omega (arith, length-drop (c.in-Some.place + 1) c.args.text.now))
    ∙ ap (λ (found : Option ℕ). (split_at_place c.args.text.now found).1) c.in-Some.ensures.place

pub returns-in-None-clause-before : goal.returns-in-None-clause-before
unfolding split_at
returns-in-None-clause-before c = ap (λ (found : Option ℕ). (split_at_place c.args.text.now found).0) c.in-None.ensures.place

pub returns-in-None-clause-behind : goal.returns-in-None-clause-behind
unfolding split_at
returns-in-None-clause-behind c = ap (λ (found : Option ℕ). (split_at_place c.args.text.now found).1) c.in-None.ensures.place
