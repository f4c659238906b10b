-- What the steps rest on: a transaction, and a reply that was read.
use Rattle.std.specs.Prelude.{ℕ, ◌≤◌, List, length, IfSome}
use Rattle.std.specs.List.{All}
use Rattle.auth_message.specs.Reply.{ReplyData}
use Rattle.emv_dict.specs.Settings.{IsAidRow, IsPurchase, IsSettings, most_amount}
use Rattle.emv_dict.specs.Views.{PurchaseData, SettingsData}
use Rattle.emv_dict.specs.declared.purchase.AidRow.{AidRow}
use Rattle.emv_dict.specs.declared.purchase.Logged.{Logged}

-- the settings, the purchase, the application's row and the amounts of the log are within their ranges
pub record IsTransaction (settings_data : SettingsData) (purchase_data : PurchaseData) (row_data : AidRow) (log_data : List Logged) : Type 0 where
  pub settings : IsSettings settings_data
  pub purchase : IsPurchase purchase_data
  pub row : IsAidRow row_data
  pub log : All (λ logged. logged.amount ≤ most_amount) log_data

-- the issuer authentication data have 8 to 16 bytes
pub record IsIssuerData (value : List ℕ) : Type 0 where
  pub least : 8 ≤ length value
  pub most : length value ≤ 16

-- and the scripts have at most 1,024 bytes
pub record IsReplyInRange (reply : ReplyData) : Type 0 where
  pub auth : IfSome reply.auth IsIssuerData
  pub short : length reply.scripts ≤ 1024
