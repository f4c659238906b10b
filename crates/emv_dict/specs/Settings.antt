-- The ranges of a terminal's settings and of a purchase, which the steps of a payment rest on.
use Rattle.std.specs.Prelude.{ℕ, ◌≤◌, ◌==◌, Bool, nat_le, ◌&&◌, ◌||◌, IsTrue, IsSome, List, length, slice_index}
use Rattle.std.specs.List.{All}
use Rattle.emv_dict.specs.Date.{has_digits, date_of}
use Rattle.emv_dict.specs.Digits.{HasPinLength}
use Rattle.emv_dict.specs.Pan.{HasPanLength}
use Rattle.emv_dict.specs.declared.purchase.AidRow.{AidRow}
use Rattle.emv_dict.specs.Views.{SettingsData, PurchaseData}

-- the greatest amount of 12 decimal digits (EMV 4.3 Book 3 Annex A, tag 9F02)
abbrev pub most_amount : ℕ
most_amount = 999999999999

-- the code of a country or of a currency: a zero and three decimal digits in two bytes (ISO 3166, ISO 4217)
abbrev pub is_code : List ℕ → Bool
is_code bytes = nat_le (slice_index bytes 0) 9 && has_digits (slice_index bytes 1)

-- a letter or a decimal digit of ASCII
abbrev pub is_letter_or_digit : ℕ → Bool
is_letter_or_digit c = (nat_le 48 c && nat_le c 57) || ((nat_le 65 c && nat_le c 90) || (nat_le 97 c && nat_le c 122))

-- the terminal's data for one application
pub record IsAidRow (row : AidRow) : Type 0 where
  pub identifier : 5 ≤ length row.name
  pub floor_fits : row.floor ≤ most_amount
  pub threshold_below : row.threshold ≤ row.floor
  pub target_below : row.target ≤ row.max_target
  pub percentage : row.max_target ≤ 99

-- a terminal's settings: an attended or unattended merchant's terminal, types 21 to 26
pub record IsSettings (settings : SettingsData) : Type 0 where
  pub least_kind : 21 ≤ settings.kind
  pub most_kind : settings.kind ≤ 26
  pub country_code : IsTrue (is_code settings.country)
  pub letters : All (λ c. IsTrue (is_letter_or_digit c)) settings.id
  pub few_exceptions : length settings.exceptions ≤ 100
  pub account_numbers : All HasPanLength settings.exceptions
  pub some_aid : 1 ≤ length settings.aids
  pub few_aids : length settings.aids ≤ 16
  pub rows : All IsAidRow settings.aids

-- a purchase
pub record IsPurchase (purchase : PurchaseData) : Type 0 where
  pub amount_fits : purchase.amount ≤ most_amount
  pub other_within : purchase.other ≤ purchase.amount
  pub currency_code : IsTrue (is_code purchase.currency)
  pub known_trade : IsTrue (purchase.trade == 0 || (purchase.trade == 1 || purchase.trade == 9))
  pub day : IsSome (date_of purchase.date)
  pub time_digits : All (λ b. IsTrue (has_digits b)) purchase.time
  pub few_pins : length purchase.pins ≤ 15
  pub pin_lengths : All HasPinLength purchase.pins
