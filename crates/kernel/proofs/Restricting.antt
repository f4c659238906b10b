-- The bits of the processing restrictions stand once the card is read.
use Rattle.std.proofs.Common.{inl, inr, refl, List}
use Rattle.emv_dict.specs.declared.purchase.Logged.{Logged}
use Rattle.kernel.proofs.Growing.{verification_behind}
use Rattle.kernel.proofs.Telling.{dialogue_all}
use Rattle.kernel.specs.Dialogue.{TransactionData, restrictions, dialogue}
use Rattle.kernel.specs.Laws.{IsRestricted}
use Rattle.kernel.specs.Reply.{Reply}
use Rattle.terminal_state.specs.Terminal.{Outset}

restricted_behind : (transaction : TransactionData) (log : List Logged) (replies : List Reply) → IsRestricted transaction.outset (restrictions transaction log replies).steps_done
unfolding restrictions
restricted_behind transaction log replies = let found = verification_behind transaction _ log replies in inr (transaction.card, transaction.row, found.0, found.1)

pub reading_restricts : (outset : Outset) (replies : List Reply) → IsRestricted outset (dialogue outset replies).steps_done
reading_restricts outset replies =
    dialogue_all outset (λ s. IsRestricted outset s.steps_done) (λ deed none plain. inl refl)
    (λ row card log replies. restricted_behind (record { outset = outset; row = row; card = card }) log replies) replies
