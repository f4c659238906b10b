use Rattle.std.proofs.Common.{rules, sym}
use Rattle.std.proofs.lemmas.Result.{err_from_is_err_and}
use Rattle.ber_tlv.specs.Seen.{seen}
use Rattle.ber_tlv.proofs.Reading.{left-end, left-item, left-fault}
use Rattle.ber_tlv.proofs.Walking.{walk-end, walk-item, walk-fault}
use Rattle.ber_tlv.proofs.cursor.Cursor.next.Goals as goal

pub returns-then-start-self-clause-left : goal.returns-then-start-self-clause-left
returns-then-start-self-clause-left c =
    let zeros = rw c.if-start-self.true at c.skip_zeros-start.ensures.zeros in
    rw (← c.self.view_is) (sym (left-end _ _ zeros))

pub returns-in_err-item-clause-left : goal.returns-in_err-item-clause-left
returns-in_err-item-clause-left c =
    let p = err_from_is_err_and c.from_residual.result c.from_residual.ensures.1 in
    let broken = left-fault _ _ c.in_err-item.field-0.0
    (record {
      start = c.skip_zeros-start.result;
      zeros = c.skip_zeros-start.ensures.zeros;
      begins = search rules;
      broken = c.in_err-item.ensures.exact;
    }) in
    rw (p.1, p.2, ← c.self.view_is) (sym broken)

pub returns-in_err-item-clause-walk : goal.returns-in_err-item-clause-walk
returns-in_err-item-clause-walk c =
    let p = err_from_is_err_and c.from_residual.result c.from_residual.ensures.1 in
    let broken = walk-fault _ _ c.in_err-item.field-0.0
    (record {
      start = c.skip_zeros-start.result;
      zeros = c.skip_zeros-start.ensures.zeros;
      begins = search rules;
      broken = c.in_err-item.ensures.exact;
    }) in
    rw (p.1, p.2, ← c.self.view_is) (sym broken)

pub returns-then-start-self-clause-walk : goal.returns-then-start-self-clause-walk
returns-then-start-self-clause-walk c =
    let zeros = rw c.if-start-self.true at c.skip_zeros-start.ensures.zeros in
    rw (← c.self.view_is) (sym (walk-end _ _ zeros))

pub returns-clause-walk : goal.returns-clause-walk
returns-clause-walk c =
    rw (← c.self.view_is) (sym (walk-item _ _ (seen c.in_ok-item.item) c.in_ok-item.next
    (record {
      start = c.skip_zeros-start.result;
      zeros = c.skip_zeros-start.ensures.zeros;
      begins = search rules;
      stands = c.in_ok-item.ensures.exact;
    })))

pub returns-clause-left : goal.returns-clause-left
returns-clause-left c =
    rw (← c.self.view_is) (sym (left-item _ _ (seen c.in_ok-item.item) c.in_ok-item.next
    (record {
      start = c.skip_zeros-start.result;
      zeros = c.skip_zeros-start.ensures.zeros;
      begins = search rules;
      stands = c.in_ok-item.ensures.exact;
    })))
