-- Processing restrictions (EMV 4.3 Book 3 section 10.4; sections 10.4.1 to 10.4.3).
use Rattle.std.specs.Prelude.{ℕ, Bool, true, false, not, ◌&&◌, List, [], ◌∷◌, Option, Some, None, option_and_then}
use Rattle.std.specs.Str.{bytes_eq}
use Rattle.emv_dict.specs.Date.{date_of, is_earlier}
use Rattle.emv_dict.specs.Flags.{bits_where, tvr_bit}
use Rattle.emv_dict.specs.Views.{SettingsData, PurchaseData}
use Rattle.emv_dict.specs.declared.date.Date.{Date}
use Rattle.emv_dict.specs.declared.purchase.AidRow.{AidRow}
use Rattle.env_map.specs.Entries.{value_of}
use Rattle.object_lists.specs.CardRead.{ReadCard}
use Rattle.restrictions.specs.Usage.{allows_terminal, allows_trade}

-- bytes that are there and are others than these
abbrev pub is_other_than : List ℕ → Option (List ℕ) → Bool
is_other_than own None = false
is_other_than own (Some given) = not (bytes_eq given own)

-- the card's application version number (9F08) is there and is not the terminal's
unfoldable pub versions_differ : ReadCard → AidRow → Bool
versions_differ card row = is_other_than row.version (value_of 0x9F08 card.entries)

-- where the issuer's country is given, the service must be allowed there or abroad
abbrev pub allows_country : List ℕ → Option (List ℕ) → SettingsData → PurchaseData → Bool
allows_country usage None settings purchase = true
allows_country usage (Some issuer) settings purchase = allows_trade usage (bytes_eq issuer settings.country) purchase

abbrev pub refuses : Option (List ℕ) → Option (List ℕ) → SettingsData → PurchaseData → Bool
refuses None issuer settings purchase = false
refuses (Some usage) issuer settings purchase = not (allows_terminal usage && allows_country usage issuer settings purchase)

-- the usage control (9F07) is there and doesn't allow the terminal or, where the issuer's country (5F28) is given, the service
unfoldable pub service_not_allowed : ReadCard → SettingsData → PurchaseData → Bool
service_not_allowed card settings purchase = refuses (value_of 0x9F07 card.entries) (value_of 0x5F28 card.entries) settings purchase

abbrev pub is_date_before : Option Date → Option Date → Bool
is_date_before (Some a) (Some b) = is_earlier a b
is_date_before (Some a) None = false
is_date_before None b = false

-- the day of an object, where it is there
abbrev pub day_in : ℕ → ReadCard → Option Date
day_in tag card = option_and_then date_of (value_of tag card.entries)

-- the purchase is before the application effective date (5F25), where that is there
unfoldable pub not_yet_effective : ReadCard → PurchaseData → Bool
not_yet_effective card purchase = is_date_before (date_of purchase.date) (day_in 0x5F25 card)

-- the purchase is behind the application expiration date (5F24)
unfoldable pub expired : ReadCard → PurchaseData → Bool
expired card purchase = is_date_before (day_in 0x5F24 card) (date_of purchase.date)

-- the bits of the terminal verification results whose condition holds
unfoldable pub restricted : ReadCard → SettingsData → AidRow → PurchaseData → ℕ
restricted card settings row purchase = bits_where (
    (versions_differ card row, tvr_bit 2 8)
    ∷ (service_not_allowed card settings purchase, tvr_bit 2 5)
    ∷ (not_yet_effective card purchase, tvr_bit 2 6)
    ∷ (expired card purchase, tvr_bit 2 7) ∷ [])
