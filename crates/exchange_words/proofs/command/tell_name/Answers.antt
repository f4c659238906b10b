use Rattle.std.proofs.Common.{List, ℕ, Option, codes, subst}
use Rattle.value_words.specs.declared.names.Form.{Form}
use Rattle.object_words.specs.Objects.{name_of}
use Rattle.report_lines.specs.Pieces.{Tells, text}
use Rattle.report_lines.proofs.Telling.{tells_then, tells_nothing}
use Rattle.exchange_words.specs.Commands.{name_words}
use Rattle.exchange_words.proofs.command.tell_name.Goals as goal

pub returns-in-Some : goal.returns-in-Some
unfolding name_of
returns-in-Some c =
    subst (λ (named : Option (List ℕ × Form)). Tells c.args.out.now c.text-in-Some.new.self (name_words named)) c.in-Some.ensures
    (tells_then _ _ _ (text (codes " ")) (text c.in-Some.name.now) c.text.ensures.told c.text-in-Some.ensures.told)

pub returns-in_default : goal.returns-in_default
unfolding name_of
returns-in_default c =
    subst (λ (named : Option (List ℕ × Form)). Tells c.args.out.now c.args.out.now (name_words named)) c.in_default.ensures (tells_nothing _)
