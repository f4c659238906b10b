use Rattle.std.proofs.Common.{◌≡◌, ap, ◌∙◌, arith}
use Rattle.std.proofs.lemmas.Grind.{common_steps}
use Rattle.report_lines.specs.Lines.{MadeLines, line_begun}
use Rattle.report_lines.specs.Pieces.{with_piece}
use Rattle.report_lines.proofs.Growing.{made_is, not_before}
use Rattle.report_lines.proofs.lines.WordLines.line.Goals as goal

pub returns : goal.returns
unfolding line_begun with_piece
returns c = λ none.
    let text = c.text.ensures.told none in
    let ended = c.end.ensures.ended text.0 in
    let grown = ap (λ (m : MadeLines). m.bytes) text.1 in
    let bytes : c.text.new.self.made.bytes ≡ line_begun c.args.self.now.made.bytes c.args.level = grind (arith, common_steps) in
    let books = ap (λ (m : MadeLines). m.books) text.1 ∙ c.end.ensures.books in
    (not_before _ _ c.end.ensures.failed text.0, made_is _ _ _ bytes books)
