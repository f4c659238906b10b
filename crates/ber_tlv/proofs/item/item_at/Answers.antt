use Rattle.std.proofs.Common.{sym}
use Rattle.std.proofs.Math.Facts.{Fits-lt-pow}
use Rattle.ber_tlv.proofs.Spelling.{length_where_ok}
use Rattle.ber_tlv.proofs.item.item_at.Goals as goal

pub returns-clause-length : goal.returns-clause-length
returns-clause-length c =
    length_where_ok c.args.bytes.now c.args.start c.in_ok-tag.tag c.in_ok-tag.length_place c.in_ok-count.count c.in_ok-count.value_place c.value_at.result
    (λ k. Fits-lt-pow (c.type_inv.bytes k)) (sym c.in_ok-tag.ensures.exact) (sym c.in_ok-count.ensures.exact) c.value_at.ensures.exact
