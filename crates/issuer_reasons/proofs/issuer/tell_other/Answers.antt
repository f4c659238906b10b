use Rattle.std.proofs.Common.{◌++◌, codes}
use Rattle.report_lines.specs.Pieces.{text}
use Rattle.report_lines.proofs.Telling.{tells_then}
use Rattle.issuer_reasons.specs.Wanted.{currency_words}
use Rattle.issuer_reasons.proofs.issuer.tell_other.Goals as goal

pub returns : goal.returns
returns c =
    let first = text (codes "the currency ") in
    let asked = currency_words c.args.currency in
    let between = text (codes " isn't the account's, ") in
    tells_then _ _ _ (first ++ asked ++ between) (currency_words c.args.own)
    (tells_then _ _ _ (first ++ asked) between (tells_then _ _ _ first asked c.text.ensures.told c.tell_currency.ensures) c.text-2.ensures.told)
    c.tell_currency-2.ensures
