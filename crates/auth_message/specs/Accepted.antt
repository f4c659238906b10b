-- Fields that reading accepts, their lengths aside that their types fix (own).
use Rattle.std.specs.Prelude.{ℕ, ◌≤◌, IsTrue, IfSome, List, length}
use Rattle.emv_dict.specs.Pan.{HasPanLength}
use Rattle.auth_message.specs.declared.message.Incoming.{Incoming}
use Rattle.auth_message.specs.declared.message.Incoming.TheVariants.{Request, Present, Reverse}
use Rattle.auth_message.specs.declared.reversal.ReversalFields.{ReversalFields}
use Rattle.auth_message.specs.Data.{RequestData, PresentData}
use Rattle.auth_message.specs.Field.{are_digits}

-- each byte is two decimal digits
abbrev pub AreDigitBytes : List ℕ → Type 0
AreDigitBytes value = IsTrue (are_digits value)

-- the fields of a request that reading accepts: digits where they have to be, and an account number of this profile
pub record IsRequest (f : RequestData) : Type 0 where
  pub account_number : HasPanLength f.named.pan
  pub sequence_number : IfSome f.named.t5f34 AreDigitBytes
  pub expiry : AreDigitBytes f.t5f24
  pub amount : AreDigitBytes f.paid.t9f02
  pub other_amount : AreDigitBytes f.paid.t9f03
  pub currency : AreDigitBytes f.paid.t5f2a
  pub date : AreDigitBytes f.paid.t9a
  pub issuer_data : length f.t9f10 ≤ 32

-- the fields of a presentment that reading accepts: digits where they have to be, and an account number of this
-- profile
pub record IsPresent (f : PresentData) : Type 0 where
  pub account_number : HasPanLength f.named.pan
  pub sequence_number : IfSome f.named.t5f34 AreDigitBytes
  pub amount : AreDigitBytes f.paid.t9f02
  pub other_amount : AreDigitBytes f.paid.t9f03
  pub currency : AreDigitBytes f.paid.t5f2a
  pub date : AreDigitBytes f.paid.t9a
  pub issuer_data : length f.t9f10 ≤ 32

-- the fields of a reversal that reading accepts: digits where they have to be, and an account number of this profile
pub record IsReversal (f : ReversalFields) : Type 0 where
  pub account_number : HasPanLength f.pan
  pub sequence_number : IfSome f.t5f34 AreDigitBytes
  pub amount : AreDigitBytes f.t9f02
  pub currency : AreDigitBytes f.t5f2a

-- the amount of a message is twelve decimal digits
abbrev pub HasAmount : Incoming → Type 0
HasAmount (Request f) = AreDigitBytes f.paid.t9f02
HasAmount (Present f) = AreDigitBytes f.paid.t9f02
HasAmount (Reverse f) = AreDigitBytes f.t9f02
