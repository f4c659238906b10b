use Rattle.std.proofs.Common.{List, ℕ, sym, ap, ◌∙◌}
use Rattle.std.proofs.lemmas.Result.{IfOk-weaker}
use Rattle.line_talk.specs.Preamble.{NoDocument, length_in}
use Rattle.line_talk.proofs.Firsts.{end_came, is_preamble, line_came, long_came, none_said}
use Rattle.line_talk.proofs.document.read_preamble.Goals as goal

pub returns-in-Some-clause-given : goal.returns-in-Some-clause-given
returns-in-Some-clause-given g c =
    let comes = rw c.in-Ok-Line.field-0-is at c.in-Ok-Line.ensures.comes in
    IfOk-weaker c.read_bytes.result _ _
    (is_preamble (g.S.Source.left c.args.source.now) (g.S.Source.left c.read_line.new.source) (g.S.Source.left c.read_bytes.new.source) c.read_line.new.line.items c.in-Some.count
    comes.0 comes.1 (ap (λ (t : List ℕ). length_in t) (sym c.as_slice.ensures.value) ∙ sym c.length_in.ensures ∙ c.in-Some.is))
    c.read_bytes.ensures.given

pub returns-in-None-clause-given : goal.returns-in-None-clause-given
returns-in-None-clause-given g c =
    let comes = rw c.in-Ok-Line.field-0-is at c.in-Ok-Line.ensures.comes in
    line_came NoDocument (g.S.Source.left c.args.source.now) (g.S.Source.left c.read_line.new.source) c.read_line.new.line.items comes.0 comes.1
    (none_said c.read_line.new.line.items (ap (λ (t : List ℕ). length_in t) (sym c.as_slice.ensures.value) ∙ sym c.length_in.ensures ∙ c.in-None.is)
    (g.S.Source.left c.read_line.new.source))

pub returns-in-Ok-End-clause-given : goal.returns-in-Ok-End-clause-given
returns-in-Ok-End-clause-given g c =
    let comes = rw c.in-Ok-End.field-0-is at c.in-Ok-End.ensures.comes in
    end_came NoDocument (g.S.Source.left c.args.source.now) (g.S.Source.left c.read_line.new.source) c.read_line.new.line.items comes.0 comes.1 comes.2

pub returns-in-Ok-Long-clause-given : goal.returns-in-Ok-Long-clause-given
returns-in-Ok-Long-clause-given g c =
    let comes = rw c.in-Ok-Long.field-0-is at c.in-Ok-Long.ensures.comes in
    long_came NoDocument (g.S.Source.left c.args.source.now) (g.S.Source.left c.read_line.new.source) c.read_line.new.line.items comes.0 comes.1 comes.2
