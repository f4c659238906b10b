-- A kernel and the replies that it has taken.
use Rattle.std.specs.Prelude.{◌≡◌, ℕ, ◌-◌, ◌^◌, min, Bool, true, List, [], ◌++◌, length, Option, Some, None, IsSome}
use Rattle.emv_dict.specs.Settings.{IsAidRow}
use Rattle.emv_dict.specs.declared.purchase.Logged.{Logged}
use Rattle.kernel.specs.StepsInTurn.{Standing}
use Rattle.kernel.specs.Dialogue.{dialogue}
use Rattle.kernel.specs.Fits.{OpeningFits}
use Rattle.kernel.specs.Reply.{Reply, Deed, ToCard, ToHost, Over}
use Rattle.kernel.specs.Stages.{OpeningStands, TradingStands, HasRoomForResults, HasAsked, scripts_left}
use Rattle.kernel.specs.declared.kernel.Next.{Next}
use Rattle.kernel.specs.declared.kernel.Next.TheVariants as next
use Rattle.kernel.specs.declared.stage.AtTrading.{AtTrading}
use Rattle.kernel.specs.declared.stage.Opening.{Opening}
use Rattle.kernel.specs.declared.stage.Opening.TheVariants as opening
use Rattle.kernel.specs.declared.stage.Stage.{Stage}
use Rattle.kernel.specs.declared.stage.Stage.TheVariants as stage
use Rattle.kernel.specs.declared.stage.Trading.{Trading}
use Rattle.kernel.specs.declared.stage.Trading.TheVariants as trading
use Rattle.object_lists.specs.CardRead.{ReadCard}
use Rattle.terminal_state.specs.StepResults.{StepResult}
use Rattle.terminal_state.specs.Table.{IsOutset, outset_of}
use Rattle.terminal_state.specs.Terminal.{Outset}
use Rattle.terminal_state.specs.declared.table.Table.{Table}

-- the parts of a kernel
pub record KernelData : Type 0 where
  pub table : Table
  pub card : Option ReadCard
  pub stage : Stage
  pub taken : ℕ
  -- its end was handed out
  pub is_spent : Bool

-- the outset of a kernel
abbrev pub outset_in : KernelData → Outset
outset_in k = outset_of k.table

-- what a stage waits for
abbrev pub opening_next : Opening → Next
opening_next (opening.Directory s) = next.ToCard
opening_next (opening.Select s) = next.ToCard
opening_next (opening.Initiate s) = next.ToCard
opening_next (opening.Read s) = next.ToCard
opening_next (opening.Over ending) = next.Ended

abbrev pub trading_next : Trading → Next
trading_next (trading.Verify v) = next.ToCard
trading_next (trading.Risk j) = next.ToCard
trading_next (trading.First asked) = next.ToCard
trading_next trading.Online = next.ToHost
trading_next trading.Authenticate = next.ToCard
trading_next (trading.ScriptBefore s) = next.ToCard
trading_next (trading.Second s) = next.ToCard
trading_next (trading.ScriptBehind s ending) = next.ToCard
trading_next (trading.Over ending) = next.Ended

abbrev pub stage_next : Stage → Next
stage_next (stage.Opening s) = opening_next s
stage_next (stage.Trading at) = trading_next at.trading

-- what a kernel waits for
abbrev pub kernel_next : KernelData → Next
kernel_next k = stage_next k.stage

-- the same of a dialogue
abbrev pub deed_next : Deed → Next
deed_next (ToCard command) = next.ToCard
deed_next (ToHost message) = next.ToHost
deed_next (Over ending) = next.Ended

-- what a dialogue waits for
abbrev pub standing_next : Standing StepResult → Next
standing_next standing = deed_next standing.deed

abbrev pub deed_bytes : Deed → List ℕ
deed_bytes (ToCard command) = command
deed_bytes (ToHost message) = message
deed_bytes (Over ending) = []

-- the command or message that a dialogue asks with
abbrev pub told_bytes : Standing StepResult → List ℕ
told_bytes standing = deed_bytes standing.deed

-- the bytes of what it does next
abbrev pub bytes_by : Table → Next → List ℕ
bytes_by t next.ToCard = t.command.items
bytes_by t next.ToHost = t.message.items
bytes_by t next.Ended = []

-- what a stage rests on once the card is read
pub record TradingFits (t : Table) (held : Option ReadCard) (at : AtTrading) : Type 0 where
  pub outset : IsOutset (outset_of t)
  pub row : IsAidRow at.row.now
  pub card : IsSome held
  pub room : HasRoomForResults t (scripts_left t.reply.scripts at.trading)
  pub asked : HasAsked t at.trading

abbrev pub StageFits : Table → Option ReadCard → Stage → Type 0
StageFits t held (stage.Opening s) = OpeningFits t s × (held ≡ None)
StageFits t held (stage.Trading at) = TradingFits t held at

pub record KernelFits (k : KernelData) : Type 0 where
  pub outset : IsOutset (outset_in k)
  pub stage : StageFits k.table k.card k.stage
  pub over : k.is_spent ≡ true → kernel_next k ≡ next.Ended

-- what is left of the dialogue is what the stage leaves
pub record TradingGoes (t : Table) (held : Option ReadCard) (at : AtTrading) (log : List Logged) (rest : List Reply → Standing StepResult) : Type 0 where
  pub card : ReadCard
  pub card_is : held ≡ Some card
  pub stands : TradingStands t (record { outset = outset_of t; row = at.row.now; card = card }) at.trading log rest

abbrev pub StageGoes : Table → Option ReadCard → Stage → List Logged → (List Reply → Standing StepResult) → Type 0
StageGoes t held (stage.Opening s) log rest = OpeningStands t s log rest
StageGoes t held (stage.Trading at) log rest = TradingGoes t held at log rest

-- the kernel has taken these replies
pub record KernelStands (k : KernelData) (replies : List Reply) : Type 0 where
  pub count : k.taken ≡ min (length replies) (2 ^ 64 - 1)
  pub log : List Logged
  pub goes : StageGoes k.table k.card k.stage log (λ later. dialogue (outset_in k) (replies ++ later))
