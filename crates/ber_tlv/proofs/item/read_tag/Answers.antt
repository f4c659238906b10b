use Rattle.std.proofs.Common.{sym}
use Rattle.std.proofs.Math.Facts.{Fits-lt-pow}
use Rattle.std.proofs.lemmas.Result.{err_from_is_err_and}
use Rattle.ber_tlv.proofs.Spelling.{tag_at-spelled, tag_at-stops}
use Rattle.ber_tlv.proofs.item.read_tag.Goals as goal

pub returns-in_err-number-clause-stops : goal.returns-in_err-number-clause-stops
returns-in_err-number-clause-stops c =
    let p = err_from_is_err_and c.from_residual.result c.from_residual.ensures.1 in
    rw (p.1, p.2) (tag_at-stops c.args.bytes.now c.args.start c.in_err-number.field-0.0 (λ k. Fits-lt-pow (c.type_inv.bytes k)) (sym c.in_err-number.ensures.exact))

pub returns-clause-spelled : goal.returns-clause-spelled
returns-clause-spelled c = tag_at-spelled c.args.bytes.now c.args.start c.in_ok-number.number c.in_ok-number.next (λ k. Fits-lt-pow (c.type_inv.bytes k)) (sym c.in_ok-number.ensures.exact)
