use Rattle.std.proofs.Common.{◌≡◌, sym, ◌∙◌}
use Rattle.std.proofs.lemmas.Option.{same_Some}
use Rattle.kernel.proofs.InTransaction.{transaction_with, transaction_is, stands_in}
use Rattle.kernel.proofs.kernel.taking.trading_said.Goals as goal
use Rattle.kernel.specs.Transactions.{transaction_of}
use Rattle.terminal_state.specs.Table.{outset_of}

pub returns-clause-stands : goal.returns-clause-stands
returns-clause-stands c = λ before rest goes.
    let at = c.args.at.now in
    let t = c.transaction_at-transaction.result in
    let facts = c.transaction_at-transaction.ensures in
    let same = same_Some t.card.now goes.card (facts.card ∙ goes.card_is) in
    let transaction : transaction_of t ≡ transaction_with (outset_of c.args.table.now) at.row.now goes.card = transaction_is t _ _ _ facts.outset facts.row same in
    let stands = stands_in (sym transaction) goes.stands in
    let next = rw facts.log at (c.on_card-at.ensures.stands before rest (rw c.replace-trading.ensures.value stands)) in
    record {
      card = goes.card;
      card_is = goes.card_is;
      stands = rw c.on_card-at.ensures.step.same (stands_in transaction next);
    }
