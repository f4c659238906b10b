use Rattle.std.proofs.Common.{◌++◌, codes}
use Rattle.report_lines.specs.Pieces.{text}
use Rattle.report_lines.proofs.Telling.{tells_then}
use Rattle.value_words.specs.Statuses.{kind_name}
use Rattle.purchase_reasons.proofs.card.tell_unanswered.Goals as goal

pub returns : goal.returns
returns c =
    let first = text (codes "asked for ") in
    let kind = text (kind_name c.args.asked) in
    let named = rw c.kind_name.ensures at c.text-2.ensures.told in
    tells_then _ _ _ (first ++ kind) (text (codes " it gave no cryptogram")) (tells_then _ _ _ first kind c.text.ensures.told named) c.text-3.ensures.told
