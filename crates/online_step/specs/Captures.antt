-- The messages that settle a purchase: a presentment where it was approved, a reversal where a request may have
-- been answered and it was not (own format).
use Rattle.std.specs.Prelude.{ℕ, List, [], ◌∷◌}
use Rattle.std.specs.Int.{to_be_bytes, w16}
use Rattle.auth_message.specs.Data.{PresentData}
use Rattle.auth_message.specs.Spelling.{present_bytes, reversal_bytes}
use Rattle.auth_message.specs.declared.reversal.ReversalFields.{ReversalFields}
use Rattle.emv_dict.specs.Bcd.{numeric}
use Rattle.emv_dict.specs.Flags.{tvr_bytes}
use Rattle.emv_dict.specs.Views.{SettingsData, PurchaseData, AcData}
use Rattle.env_map.specs.Entries.{value_of}
use Rattle.object_lists.specs.CardRead.{ReadCard}

-- the fields of a presentment: the purchase, the verification results that the approving cryptogram was asked
-- with, what it gives, and the response code
abbrev pub presentment_data : ReadCard → SettingsData → PurchaseData → ℕ → AcData → List ℕ → PresentData
presentment_data card settings purchase tvr ac code = record {
  named = record { t9f1c = settings.id; pan = card.pan; t5f34 = value_of 0x5F34 card.entries };
  paid = record {
    t9f02 = numeric 6 purchase.amount;
    t9f03 = numeric 6 purchase.other;
    t9f1a = settings.country;
    t95 = tvr_bytes tvr;
    t5f2a = purchase.currency;
    t9a = purchase.date;
    t9c = purchase.trade ∷ [];
    t9f37 = purchase.number;
    t82 = card.aip;
    t9f36 = to_be_bytes w16 ac.counter;
    t9f26 = ac.cryptogram;
  };
  t9f10 = ac.iad;
  t8a = code;
}

-- a presentment's bytes
unfoldable pub presentment_of : ReadCard → SettingsData → PurchaseData → ℕ → AcData → List ℕ → List ℕ
presentment_of card settings purchase tvr ac code = present_bytes (presentment_data card settings purchase tvr ac code)

-- the fields of a reversal: the counter is that of the request
abbrev pub reversal_data : ReadCard → SettingsData → PurchaseData → ℕ → List ℕ → ReversalFields
reversal_data card settings purchase counter code = record {
  t9f1c = settings.id;
  pan = card.pan;
  t5f34 = value_of 0x5F34 card.entries;
  t9f36 = to_be_bytes w16 counter;
  t9f02 = numeric 6 purchase.amount;
  t5f2a = purchase.currency;
  t8a = code;
}

-- a reversal's bytes
unfoldable pub reversal_of : ReadCard → SettingsData → PurchaseData → ℕ → List ℕ → List ℕ
reversal_of card settings purchase counter code = reversal_bytes (reversal_data card settings purchase counter code)
