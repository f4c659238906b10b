-- The transaction that a terminal is in.
use Rattle.kernel.specs.Dialogue.{TransactionData}
use Rattle.kernel.specs.declared.transaction.Transaction.{Transaction}

abbrev pub transaction_of : Transaction → TransactionData
transaction_of t = record { outset = record { settings = t.settings.now; purchase = t.purchase.now }; row = t.row.now; card = t.card.now }
