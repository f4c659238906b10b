use Rattle.std.proofs.Common.{◌++◌, codes}
use Rattle.report_lines.specs.Pieces.{text, number}
use Rattle.report_lines.proofs.Telling.{tells_then}
use Rattle.issuer_reasons.specs.Issuers.{at_most_words}
use Rattle.issuer_reasons.proofs.issuer.tell_balance.Goals as goal

pub returns : goal.returns
returns c =
    let first = text (codes "the balance ") in
    let most = at_most_words c.args.is_unsure in
    tells_then _ _ _ (first ++ most) (number c.args.balance) (tells_then _ _ _ first most c.text.ensures.told c.tell_at_most.ensures) c.number.ensures
