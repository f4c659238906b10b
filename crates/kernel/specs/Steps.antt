-- What a step makes of the table: what it keeps, where it comes to, and what is left of the dialogue then.
use Rattle.std.specs.Prelude.{◌≡◌, ℕ, ◌<◌, List, [], ◌∷◌, Option}
use Rattle.app_select.specs.Selecting.{SelectedData}
use Rattle.emv_dict.specs.Progress.{Progress}
use Rattle.emv_dict.specs.declared.ending.Step.TheVariants as step
use Rattle.emv_dict.specs.declared.purchase.Logged.{Logged}
use Rattle.kernel.specs.StepsInTurn.{Standing, card_step, cut_off}
use Rattle.kernel.specs.Dialogue.{TransactionData, selected_then}
use Rattle.kernel.specs.Fits.{OpeningFits, NextFits}
use Rattle.kernel.specs.Kernel.{StageFits}
use Rattle.kernel.specs.Rank.{opening_rank, next_rank, trading_rank, stage_rank}
use Rattle.kernel.specs.Reply.{Reply, CardSaid}
use Rattle.kernel.specs.Stages.{OpeningStands, TradingStands, Begins, HasRoomForResults, HasAsked, scripts_left}
use Rattle.kernel.specs.declared.stage.Opening.{Opening}
use Rattle.kernel.specs.declared.stage.OpeningNext.{OpeningNext}
use Rattle.kernel.specs.declared.stage.Stage.{Stage}
use Rattle.kernel.specs.declared.stage.Trading.{Trading}
use Rattle.object_lists.specs.CardRead.{ReadCard}
use Rattle.terminal_state.specs.StepResults.{StepResult}
use Rattle.terminal_state.specs.Table.{outset_of}
use Rattle.terminal_state.specs.declared.table.Table.{Table}

-- a step comes to this stage before the card is read: the deal is the same, fewer replies than this are left to take,
-- and the stage fits the table
pub record OpensAs (old new : Table) (s : Opening) (limit : ℕ) : Type 0 where
  pub same : outset_of new ≡ outset_of old
  pub nearer : opening_rank new s < limit
  pub fits : OpeningFits new s

-- the same while its records are read
pub record ReadsTo (old new : Table) (s : OpeningNext) (limit : ℕ) : Type 0 where
  pub same : outset_of new ≡ outset_of old
  pub nearer : next_rank new s < limit
  pub fits : NextFits new s

-- the same once the card is read: there is room for the scripts' results, and a message that is asked is one that the
-- host reads
pub record StepComes (old new : Table) (s : Trading) (limit : ℕ) : Type 0 where
  pub same : outset_of new ≡ outset_of old
  pub nearer : trading_rank new s < limit
  pub room : HasRoomForResults new (scripts_left new.reply.scripts s)
  pub asked : HasAsked new s

-- the same of any stage, with the card's data that are held
pub record StageComes (old new : Table) (held : Option ReadCard) (s : Stage) (limit : ℕ) : Type 0 where
  pub same : outset_of new ≡ outset_of old
  pub nearer : stage_rank new s < limit
  pub fits : StageFits new held s

-- what stood for the replies to come stands, behind this one, for those behind it
abbrev pub TakesOn : ((List Reply → Standing StepResult) → Type 0) → ((List Reply → Standing StepResult) → Type 0) → Reply → Type 0
TakesOn before after reply = (rest : List Reply → Standing StepResult) → before rest → after (λ later. rest (reply ∷ later))

-- so with the card's answer, and the log that comes with it
abbrev pub OpeningTakes : Table → Table → Opening → Opening → List ℕ → Type 0
OpeningTakes old new s after answer = (before now : List Logged) → TakesOn (OpeningStands old s before) (OpeningStands new after now) (CardSaid answer now)

abbrev pub TakesAnswer : Table → Table → TransactionData → Trading → Trading → List ℕ → Type 0
TakesAnswer old new transaction s after answer = (before now : List Logged) → TakesOn (TradingStands old transaction s before) (TradingStands new transaction after now) (CardSaid answer now)

-- and with a reply that leaves the log as it is
abbrev pub TakesReply : Table → Table → TransactionData → Trading → Trading → Reply → Type 0
TakesReply old new transaction s after reply = (log : List Logged) → TakesOn (TradingStands old transaction s log) (TradingStands new transaction after log) reply

-- where this is left of the dialogue, behind these steps, the stage stands for it
abbrev pub BeginsAs : Table → Table → TransactionData → Trading → List StepResult → List Logged → (List Reply → Standing StepResult) → Type 0
BeginsAs old new transaction s steps_done log start = (rest : List Reply → Standing StepResult) → Begins old transaction.card steps_done rest start → TradingStands new transaction s log rest

-- where a course of application selection is left that leads on so, the stage stands for it
abbrev pub SelectsAs : Table → Table → Opening → ((List (List ℕ) → Progress SelectedData) → Type 0) → Type 0
SelectsAs old new s leads = (log : List Logged) (course : List (List ℕ) → Progress SelectedData) (rest : List Reply → Standing StepResult)
    → ((later : List Reply) → rest later ≡ card_step (cut_off []) step.Select step.Select [] course (selected_then (outset_of old)) log later)
    → leads course → OpeningStands new s log rest
