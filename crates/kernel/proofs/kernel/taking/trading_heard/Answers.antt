use Rattle.std.proofs.Common.{◌≡◌, sym, ◌∙◌}
use Rattle.std.proofs.lemmas.Option.{same_Some}
use Rattle.kernel.proofs.InTransaction.{transaction_with, transaction_is, stands_in}
use Rattle.kernel.proofs.kernel.taking.trading_heard.Goals as goal
use Rattle.kernel.specs.Transactions.{transaction_of}
use Rattle.terminal_state.specs.Table.{outset_of}

pub returns-clause-stands : goal.returns-clause-stands
returns-clause-stands c = λ log rest goes.
    let t = c.transaction_at-transaction.result in
    let facts = c.transaction_at-transaction.ensures in
    let same = same_Some t.card.now goes.card (facts.card ∙ goes.card_is) in
    let transaction : transaction_of t ≡ transaction_with (outset_of c.args.table.now) c.args.at.row.now goes.card = transaction_is t _ _ _ facts.outset facts.row same in
    let next = c.on_host-trading.ensures.stands log rest (stands_in (sym transaction) goes.stands) in
    record {
      card = goes.card;
      card_is = goes.card_is;
      stands = rw c.on_host-trading.ensures.step.same (stands_in transaction next);
    }
