use Rattle.std.proofs.Common.{◌≡◌, true, codes, is_some, sym, ap, ◌∙◌}
use Rattle.ber_tlv.specs.Left.{fault_of, items_of}
use Rattle.report_lines.specs.Pieces.{line, text}
use Rattle.report_lines.proofs.Telling.{tells_then}
use Rattle.exchange_words.proofs.body.tell_body.Goals as goal

pub returns-then-is_some : goal.returns-then-is_some
returns-then-is_some c =
    let broken : is_some (fault_of (items_of c.args.body.now)) ≡ true = sym (c.is_some.ensures ∙ ap is_some c.first_fault.ensures.result) ∙ c.if-is_some.true in
    rw broken (tells_then _ _ _ (line 1) (text (codes "no whole data objects")) c.line.ensures c.text.ensures.told)
