use Rattle.std.proofs.Common.{◌++◌, codes}
use Rattle.report_lines.specs.Pieces.{text, number}
use Rattle.report_lines.proofs.Telling.{tells_then}
use Rattle.issuer_reasons.specs.Issuers.{balance_words}
use Rattle.issuer_reasons.proofs.issuer.tell_above.Goals as goal

pub returns : goal.returns
returns c =
    let first = text (codes "the amount ") in
    let amount = number c.args.amount in
    let above = text (codes " is above ") in
    tells_then _ _ _ (first ++ amount ++ above) (balance_words c.args.balance c.args.is_unsure)
    (tells_then _ _ _ (first ++ amount) above (tells_then _ _ _ first amount c.text.ensures.told c.number.ensures) c.text-2.ensures.told)
    c.tell_balance.ensures
