use Rattle.std.proofs.Common.{◌≡◌, sym, ◌∙◌, subst, List}
use Rattle.std.proofs.lemmas.Option.{same_Some}
use Rattle.emv_dict.specs.declared.purchase.Logged.{Logged}
use Rattle.kernel.proofs.InTransaction.{transaction_with, transaction_is, stands_in}
use Rattle.kernel.proofs.kernel.taking.has_read.Goals as goal
use Rattle.kernel.specs.Dialogue.{TransactionData, restrictions}
use Rattle.kernel.specs.Reply.{Reply}
use Rattle.kernel.specs.Transactions.{transaction_of}
use Rattle.object_lists.specs.CardRead.{card_of_objects}
use Rattle.terminal_state.specs.Table.{outset_of}

pub returns-clause-stands : goal.returns-clause-stands
returns-clause-stands c = λ rest passed.
    let t = c.transaction_at-transaction.result in
    let facts = c.transaction_at-transaction.ensures in
    let card = card_of_objects c.args.table.now.objects in
    let same = same_Some t.card.now card (facts.card ∙ c.keep.ensures) in
    let transaction : transaction_of t ≡ transaction_with (outset_of c.args.table.now) c.args.row.now card = transaction_is t _ _ _ facts.outset facts.row same in
    let read = subst (λ (transaction : TransactionData). (later : List Reply) → rest later ≡ restrictions transaction c.args.log.now later) (sym transaction) passed in
    let begun = c.begin_trading.ensures.stands rest (subst (λ (log : List Logged). (later : List Reply) → rest later ≡ restrictions (transaction_of t) log later) (sym facts.log) read) in
    record {
      card = card;
      card_is = c.keep.ensures;
      stands = rw c.begin_trading.ensures.step.same (rw facts.log at (stands_in transaction begun));
    }
