-- An account as a contract sees it.
use Rattle.std.specs.Prelude.{ℕ, ◌≤◌, ◌%◌, nat_lt, ◌==◌, Bool, ◌&&◌, IsTrue, List, length, Option, IfSome}
use Rattle.std.specs.List.{All}
use Rattle.emv_dict.specs.Digits.{HasPinLength}
use Rattle.emv_dict.specs.Pan.{HasPanLength}
use Rattle.emv_dict.specs.Settings.{most_amount, is_code}
use Rattle.script_words.specs.MadeLength.{all_made_length}
use Rattle.script_words.specs.Script.{ScriptData, IsScript}
use Rattle.issuer_host.specs.declared.account.Method.{Method}

pub record AccountData : Type 0 where
  pub pan : List ℕ
  pub currency : List ℕ
  pub balance : ℕ
  pub blocked : Bool
  pub pin : Option (List ℕ)
  pub scripts : List ScriptData
  pub arpc : Method
  pub status : ℕ

-- a sum of none or some of 64, 32 and 16
abbrev pub is_status : ℕ → Bool
is_status status = (status % 16 == 0) && nat_lt status 128

-- an account that an issuer can keep
pub record IsAccount (account : AccountData) : Type 0 where
  pub account_number : HasPanLength account.pan
  pub currency_code : IsTrue (is_code account.currency)
  pub balance_fits : account.balance ≤ most_amount
  pub pin_length : IfSome account.pin HasPinLength
  pub few_scripts : length account.scripts ≤ 8
  pub whole_scripts : All IsScript account.scripts
  pub short_scripts : all_made_length account.scripts ≤ 1024
  pub status_bits : IsTrue (is_status account.status)
