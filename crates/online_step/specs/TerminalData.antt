-- The terminal's objects that go into a request (EMV 4.3 Book 3 Annex A).
use Rattle.std.specs.Prelude.{◌≡◌, ℕ, IsTrue, List, [], length, unwrap_or}
use Rattle.auth_message.specs.Accepted.{AreDigitBytes}
use Rattle.emv_dict.specs.Settings.{is_code}
use Rattle.env_map.specs.Entries.{Entries, value_of}

-- the value of an object, no bytes where it is absent
abbrev pub object : ℕ → Entries → List ℕ
object tag entries = unwrap_or (value_of tag entries) []

-- the objects are there, each with so many bytes, those in numeric format have digits, and the currency is
-- a code
pub record HasTerminalData (entries : Entries) : Type 0 where
  pub identification : length (object 0x9F1C entries) ≡ 8
  pub amount : length (object 0x9F02 entries) ≡ 6
  pub amount_digits : AreDigitBytes (object 0x9F02 entries)
  pub other_amount : length (object 0x9F03 entries) ≡ 6
  pub other_amount_digits : AreDigitBytes (object 0x9F03 entries)
  pub country : length (object 0x9F1A entries) ≡ 2
  pub verification_results : length (object 0x95 entries) ≡ 5
  pub currency : length (object 0x5F2A entries) ≡ 2
  pub currency_code : IsTrue (is_code (object 0x5F2A entries))
  pub date : length (object 0x9A entries) ≡ 3
  pub date_digits : AreDigitBytes (object 0x9A entries)
  pub transaction_type : length (object 0x9C entries) ≡ 1
  pub transaction_digits : AreDigitBytes (object 0x9C entries)
  pub unpredictable_number : length (object 0x9F37 entries) ≡ 4
