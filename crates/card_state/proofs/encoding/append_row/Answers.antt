use Rattle.std.proofs.Common.{append_assoc, arith, rules}
use Rattle.card_state.specs.Encoding.{row_bytes}
use Rattle.card_state.proofs.Bytes.{are_bytes}
use Rattle.card_state.proofs.encoding.append_row.Goals as goal

pub returns-clause-items : goal.returns-clause-items
unfolding row_bytes
returns-clause-items c =
    rw (
      c.append-5.ensures.items,
      c.append-4.ensures.items,
      c.append-3.ensures.items,
      c.append-2.ensures.items,
      c.append.ensures.items,
      c.to_be_bytes.ensures,
    )
    (simp append_assoc)

pub returns-clause-ranges : goal.returns-clause-ranges
returns-clause-ranges c = record {
  raw = are_bytes c.args.row.raw 6 (search rules) (search rules);
  currency = are_bytes c.args.row.currency 2 (search rules) (search rules);
  date = are_bytes c.args.row.date 3 (search rules) (search rules);
  counter = omega arith;
  kind = omega arith;
}
