-- The transaction that a terminal is in, of its parts.
use Rattle.std.proofs.Common.{◌≡◌, List, refl, subst}
use Rattle.emv_dict.specs.declared.purchase.AidRow.{AidRow}
use Rattle.emv_dict.specs.declared.purchase.Logged.{Logged}
use Rattle.kernel.specs.StepsInTurn.{Standing}
use Rattle.kernel.specs.Dialogue.{TransactionData}
use Rattle.kernel.specs.Reply.{Reply}
use Rattle.kernel.specs.Stages.{TradingStands}
use Rattle.kernel.specs.Transactions.{transaction_of}
use Rattle.kernel.specs.declared.stage.Trading.{Trading}
use Rattle.kernel.specs.declared.transaction.Transaction.{Transaction}
use Rattle.object_lists.specs.CardRead.{ReadCard}
use Rattle.terminal_state.specs.StepResults.{StepResult}
use Rattle.terminal_state.specs.Terminal.{Outset}
use Rattle.terminal_state.specs.declared.table.Table.{Table}

abbrev pub transaction_with : Outset → AidRow → ReadCard → TransactionData
transaction_with outset row card = record { outset = outset; row = row; card = card }

pub transaction_is : (t : Transaction) (outset : Outset) (row : AidRow) (card : ReadCard) → (transaction_of t).outset ≡ outset → t.row.now ≡ row → t.card.now ≡ card → transaction_of t ≡ transaction_with outset row card
transaction_is t outset row card outset_is row_is card_is = rw (outset_is, row_is, card_is) refl

pub stands_in : {t : Table} {one two : TransactionData} {s : Trading} {log : List Logged} {rest : List Reply → Standing StepResult} → one ≡ two → TradingStands t one s log rest → TradingStands t two s log rest
stands_in {t = t} {s = s} {log = log} {rest = rest} same stands = subst (λ (transaction : TransactionData). TradingStands t transaction s log rest) same stands
