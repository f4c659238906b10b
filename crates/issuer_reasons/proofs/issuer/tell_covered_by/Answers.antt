use Rattle.std.proofs.Common.{◌++◌, codes}
use Rattle.report_lines.specs.Pieces.{text, number}
use Rattle.report_lines.proofs.Telling.{tells_then}
use Rattle.issuer_reasons.specs.Issuers.{balance_words}
use Rattle.issuer_reasons.proofs.issuer.tell_covered_by.Goals as goal

pub returns : goal.returns
returns c =
    let balance = balance_words c.args.balance c.args.is_unsure in
    let covers = text (codes " covers the amount ") in
    tells_then _ _ _ (balance ++ covers) (number c.args.amount) (tells_then _ _ _ balance covers c.tell_balance.ensures c.text.ensures.told) c.number.ensures
