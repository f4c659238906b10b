-- Cardholder verification of a card (EMV 4.3 Book 3 section 10.5).
use Rattle.std.specs.Prelude.{ℕ, ◌+◌, ◌==◌, Bool, true, false, if◌then◌else◌, List, [], ◌∷◌, length, bit_and, drop, filter, slice_index, Option, Some, None}
use Rattle.std.specs.Int.{from_be_bytes, w32}
use Rattle.std.specs.Str.{bytes_eq}
use Rattle.cvm_list.specs.Cvm.{course, nothing_found, verified_by_rules}
use Rattle.cvm_list.specs.Rules.{rules_of, holds}
use Rattle.cvm_list.specs.declared.rule.Rule.{Rule}
use Rattle.cvm_list.specs.declared.rule.Situation.{Situation}
use Rattle.emv_dict.specs.Flags.{tvr_bit}
use Rattle.emv_dict.specs.Progress.{Progress, Done}
use Rattle.emv_dict.specs.Views.{SettingsData, PurchaseData}
use Rattle.emv_dict.specs.declared.verified.Verified.{Verified}
use Rattle.env_map.specs.Entries.{value_of}
use Rattle.object_lists.specs.CardRead.{ReadCard}

-- the purchase is in the application currency, object 9F42
abbrev pub is_same_currency : Option (List ℕ) → PurchaseData → Bool
is_same_currency None purchase = false
is_same_currency (Some currency) purchase = bytes_eq currency purchase.currency

-- the number of four bytes
abbrev pub amount_at : List ℕ → ℕ → ℕ
amount_at list place = from_be_bytes w32 (
    slice_index list place ∷ slice_index list (place + 1) ∷ slice_index list (place + 2) ∷ slice_index list (place + 3) ∷ [])

-- X and Y are the list's first and second four bytes
unfoldable pub situation : List ℕ → Option (List ℕ) → SettingsData → PurchaseData → Situation
situation list currency settings purchase = record {
  kind = settings.kind;
  caps = slice_index settings.caps 1;
  trade = purchase.trade;
  in_currency = is_same_currency currency purchase;
  amount = purchase.amount;
  x = amount_at list 0;
  y = amount_at list 4;
}

-- the rules whose condition holds
unfoldable pub holding : Situation → List Rule → List Rule
holding s rules = filter (holds s) rules

-- not performed
abbrev pub passed : ℕ → Verified
passed bits = record { results = 0x3F ∷ 0x00 ∷ 0x00 ∷ []; tvr = record { 0 = bits }; performed = false; online_pin = None }

abbrev pub by_rules : List Rule → Situation → PurchaseData → List (List ℕ) → Progress Verified
by_rules [] s purchase answers = Done (passed (tvr_bit 1 6)) answers
by_rules (rule ∷ rules) s purchase answers = verified_by_rules nothing_found (course s.caps (holding s (rule ∷ rules)) purchase.pins answers) answers

-- without a list, or with one without rules, an object is missing
abbrev pub by_list : Option (List ℕ) → ReadCard → SettingsData → PurchaseData → List (List ℕ) → Progress Verified
by_list None card settings purchase answers = Done (passed (tvr_bit 1 6)) answers
by_list (Some list) card settings purchase answers =
    by_rules (rules_of (drop 8 list)) (situation list (value_of 0x9F42 card.entries) settings purchase) purchase answers

-- a card whose application interchange profile has b5 of its first byte off asks for no verification
unfoldable pub cvm : ReadCard → SettingsData → PurchaseData → List (List ℕ) → Progress Verified
cvm card settings purchase answers =
    if bit_and (slice_index card.aip 0) 0x10 == 0 then Done (passed 0) answers
    else by_list (value_of 0x8E card.entries) card settings purchase answers
