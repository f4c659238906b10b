use Rattle.std.proofs.Common.{◌≡◌, ◌<◌, ℕ, sym, ap, ◌∙◌, false, arith}
use Rattle.std.specs.Prelude.{nat_le, slice_range}
use Rattle.std.proofs.lemmas.Bool.{le-leb}
use Rattle.std.proofs.lemmas.Bool.Decides.{nat_tests}
use Rattle.auth_message.specs.Left.{FieldsData}
use Rattle.auth_message.proofs.Scripts.{no_scripts, too_many, too_long, all_scripts}
use Rattle.auth_message.proofs.fields.Fields.scripts.Goals as goal

pub returns-in_default-clause-value : goal.returns-in_default-clause-value
returns-in_default-clause-value c = rw c.script.ensures.rest (no_scripts c.args.self.now.bytes c.args.self.now.left (sym c.script.ensures.value ∙ c.in_default.is))

pub returns-in_default-scripts_end-clause-value : goal.returns-in_default-scripts_end-clause-value
returns-in_default-scripts_end-clause-value c =
    too_many c.args.self.now.bytes c.args.self.now.left c.in-Some.start c.in-Some.end (sym c.script.ensures.value ∙ c.in-Some.is)
    (sym (rw (c.script.ensures.bytes, c.script.ensures.rest) at c.scripts_end.ensures.value) ∙ c.in_default-scripts_end.is)

not_short : (n most : ℕ) → most < n → nat_le n most ≡ false
not_short n most above = grind (arith, nat_tests)

pub returns-then-scripts-gt-MOST_SCRIPT_BYTES-clause-value : goal.returns-then-scripts-gt-MOST_SCRIPT_BYTES-clause-value
returns-then-scripts-gt-MOST_SCRIPT_BYTES-clause-value c =
    let whole : c.self.inside.message.now ≡ c.args.self.now.bytes = ap (λ (v : FieldsData). v.bytes) c.self.view_is ∙ c.scripts_end.ensures.bytes ∙ c.script.ensures.bytes in
    let value : c.between-scripts.result.now ≡ slice_range c.args.self.now.bytes c.in-Some.start c.in-Some-scripts_end.end = c.between-scripts.ensures ∙ ap (λ b. slice_range b c.in-Some.start c.in-Some-scripts_end.end) whole in
    too_long c.args.self.now.bytes c.args.self.now.left c.in-Some.start c.in-Some.end c.in-Some-scripts_end.end (sym c.script.ensures.value ∙ c.in-Some.is)
    (sym (rw (c.script.ensures.bytes, c.script.ensures.rest) at c.scripts_end.ensures.value) ∙ c.in-Some-scripts_end.is)
    (rw (← value) (not_short _ _ c.if-scripts-gt-MOST_SCRIPT_BYTES.true))

pub returns-clause-value : goal.returns-clause-value
returns-clause-value c =
    let whole : c.self.inside.message.now ≡ c.args.self.now.bytes = ap (λ (v : FieldsData). v.bytes) c.self.view_is ∙ c.scripts_end.ensures.bytes ∙ c.script.ensures.bytes in
    let value : c.between-scripts.result.now ≡ slice_range c.args.self.now.bytes c.in-Some.start c.in-Some-scripts_end.end = c.between-scripts.ensures ∙ ap (λ b. slice_range b c.in-Some.start c.in-Some-scripts_end.end) whole in
    rw (value, c.in-Some-scripts_end.ensures.rest, c.script.ensures.rest)
    (all_scripts c.args.self.now.bytes c.args.self.now.left c.in-Some.start c.in-Some.end c.in-Some-scripts_end.end (sym c.script.ensures.value ∙ c.in-Some.is)
    (sym (rw (c.script.ensures.bytes, c.script.ensures.rest) at c.scripts_end.ensures.value) ∙ c.in-Some-scripts_end.is)
    (rw (← value) (le-leb _ _ c.if-scripts-gt-MOST_SCRIPT_BYTES.false)))
