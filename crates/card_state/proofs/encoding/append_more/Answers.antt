use Rattle.std.proofs.Common.{append_assoc, arith}
use Rattle.card_state.specs.Encoding.{more_bytes}
use Rattle.card_state.proofs.encoding.append_more.Goals as goal

pub returns-clause-items : goal.returns-clause-items
unfolding more_bytes
returns-clause-items c =
    rw (
      c.append-3.ensures.items,
      c.append-2.ensures.items,
      c.append.ensures.items,
      c.to_be_bytes.ensures,
      c.to_be_bytes-2.ensures,
      c.log_sizes.ensures.bytes,
    )
    (simp append_assoc)

pub returns-clause-ranges : goal.returns-clause-ranges
returns-clause-ranges c = record {
  sum_two = omega arith;
  limit_two = omega arith;
  log_max = c.log_sizes.ensures.most;
  few_rows = c.log_sizes.ensures.few;
}
