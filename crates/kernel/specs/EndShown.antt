-- What an end record shows of the end of a dialogue.
use Rattle.std.specs.Prelude.{ℕ, List, Option, Some, None, option_map}
use Rattle.emv_dict.specs.Views.{AcData}
use Rattle.emv_dict.specs.declared.ending.Ending.{Ending}
use Rattle.kernel.specs.Ended.{EndData}
use Rattle.kernel.specs.declared.stage.Opening.{Opening}
use Rattle.kernel.specs.declared.stage.Opening.TheVariants as opening
use Rattle.kernel.specs.declared.stage.Stage.{Stage}
use Rattle.kernel.specs.declared.stage.Stage.TheVariants as stage
use Rattle.kernel.specs.declared.stage.Trading.{Trading}
use Rattle.kernel.specs.declared.stage.Trading.TheVariants as trading
use Rattle.object_lists.specs.CardRead.{ReadCard}

-- the account number is there where reading is finished; `capture` are the bytes of the message
pub record EndShown : Type 0 where
  pub ending : Ending
  pub tvr : ℕ
  pub tsi : ℕ
  pub cvm : List ℕ
  pub pan : Option (List ℕ)
  pub code : Option (List ℕ)
  pub last : Option AcData
  pub scripts : List (List ℕ)
  pub capture : Option (List ℕ)

-- with the card's data, which are there where reading is finished
pub record EndedData : Type 0 where
  pub shown : EndShown
  pub card : Option ReadCard

abbrev pub shown_end : EndData → EndShown
shown_end end = record {
  ending = end.ending;
  tvr = end.state_so_far.tvr;
  tsi = end.state_so_far.tsi;
  cvm = end.state_so_far.results;
  pan = option_map (λ card. card.pan) end.card;
  code = end.state_so_far.code;
  last = end.state_so_far.last;
  scripts = end.state_so_far.scripts;
  capture = end.capture;
}

-- how a stage ended, where it did
abbrev pub opening_over : Opening → Option Ending
opening_over (opening.Directory s) = None
opening_over (opening.Select s) = None
opening_over (opening.Initiate s) = None
opening_over (opening.Read s) = None
opening_over (opening.Over ending) = Some ending

abbrev pub trading_over : Trading → Option Ending
trading_over (trading.Verify v) = None
trading_over (trading.Risk j) = None
trading_over (trading.First asked) = None
trading_over trading.Online = None
trading_over trading.Authenticate = None
trading_over (trading.ScriptBefore s) = None
trading_over (trading.Second s) = None
trading_over (trading.ScriptBehind s ending) = None
trading_over (trading.Over ending) = Some ending

abbrev pub stage_over : Stage → Option Ending
stage_over (stage.Opening s) = opening_over s
stage_over (stage.Trading at) = trading_over at.trading
