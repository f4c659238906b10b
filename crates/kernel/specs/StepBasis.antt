-- What each step of a transaction rests on once the card is read.
use Rattle.std.specs.Prelude.{List}
use Rattle.emv_dict.specs.declared.purchase.AidRow.{AidRow}
use Rattle.env_map.specs.Entries.{Entries}
use Rattle.object_lists.specs.CardRead.{ReadCard}
use Rattle.terminal_state.specs.StepResults.{StepResult, state_so_far}
use Rattle.terminal_state.specs.Terminal.{Outset, terminal_objects}

-- a transaction once the card is read: what was dealt, the terminal's row of the application, and the card
pub record TransactionData : Type 0 where
  pub outset : Outset
  pub row : AidRow
  pub card : ReadCard

-- the objects of the terminal at this moment
abbrev pub objects_at : TransactionData → List StepResult → Entries
objects_at transaction steps_done = terminal_objects transaction.outset transaction.row (state_so_far steps_done)
