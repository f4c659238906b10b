use Rattle.std.proofs.Common.{◌≡◌, ◌+◌, ◌-◌, ◌++◌, List, length, take, drop, suc, rules, sym, ap, ◌∙◌, arith}
use Rattle.card_state.specs.declared.state.LogRow.{LogRow}
use Rattle.card_state.specs.Layout.{rows_in}
use Rattle.card_state.proofs.LayoutLemmas.{one_more_row, all_rows}
use Rattle.card_state.proofs.decoding.read_rows.Goals as goal

pub loop-i-preserved : goal.loop-i-preserved
loop-i-preserved c =
    let n = c.args.count - (c.loop-i.i + 1) in
    let some : c.args.count - c.loop-i.i ≡ suc n = omega arith in
    record {
      count = search rules;
      whole = search rules;
      left =
          one_more_row (rows_in c.args.count c.args.bytes.now) c.loop-i.rows.items n (c.args.count - c.loop-i.i) c.loop-i.rest.now c.read_row.result
          some c.read_row.ensures c.loop-i.invariant.left
          ∙ ap (λ (xs : List LogRow). xs ++ rows_in n (take (length c.loop-i.rest.now - 14) (drop 14 c.loop-i.rest.now))) (sym c.push.ensures.items);
    }

pub returns : goal.returns
returns c = all_rows (rows_in c.args.count c.args.bytes.now) c.loop-i.rows.items (c.args.count - c.loop-i.i) c.loop-i.rest.now (omega arith) c.loop-i.invariant.left
