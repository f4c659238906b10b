use Rattle.std.proofs.Common.{append_assoc, arith}
use Rattle.card_state.specs.Encoding.{app_bytes_one}
use Rattle.card_state.proofs.encoding.append_first.Goals as goal

pub returns-clause-items : goal.returns-clause-items
unfolding app_bytes_one
returns-clause-items c =
    rw (
      c.append_pin.ensures.items,
      c.append-8.ensures.items,
      c.append-7.ensures.items,
      c.append-6.ensures.items,
      c.append-5.ensures.items,
      c.append-4.ensures.items,
      c.append-3.ensures.items,
      c.append-2.ensures.items,
      c.append.ensures.items,
      c.to_be_bytes.ensures,
      c.to_be_bytes-2.ensures,
      c.to_be_bytes-3.ensures,
      c.to_be_bytes-4.ensures,
      c.flags.ensures,
    )
    (simp append_assoc)

pub returns-clause-ranges : goal.returns-clause-ranges
returns-clause-ranges c = record {
  counter = omega arith;
  last_online = omega arith;
  count = omega arith;
  sum = omega arith;
  count_limit = omega arith;
  sum_limit = omega arith;
  tries = omega arith;
  pin = c.append_pin.ensures.bytes;
}
