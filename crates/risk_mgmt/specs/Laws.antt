-- What holds of the bits that risk management finds, in other words.
use Rattle.std.specs.Prelude.{⊤, ℕ, ◌≤◌, List}
use Rattle.std.specs.Int.{bit_at}
use Rattle.emv_dict.specs.Progress.{Progress, Wants, Stopped, Done}
use Rattle.emv_dict.specs.Views.{SettingsData, PurchaseData}
use Rattle.emv_dict.specs.declared.judged.Judged.{Judged}
use Rattle.emv_dict.specs.declared.purchase.AidRow.{AidRow}
use Rattle.emv_dict.specs.declared.purchase.Logged.{Logged}
use Rattle.object_lists.specs.CardRead.{ReadCard}
use Rattle.risk_mgmt.specs.Risky.{risky}

-- the bits of this step (EMV 4.3 Book 3 Annex C5), the five bytes of the terminal verification results one behind
-- another: bits 6 and 5 of the first byte, 4 of the second, 8 to 4 of the fourth
abbrev pub risk_bits : ℕ
risk_bits = 0x300800F800

-- no bit stands outside them, at whichever place, counted from 0 at the right
abbrev pub AreRiskBits : ℕ → Type 0
AreRiskBits bits = (place : ℕ) → bit_at bits place ≤ bit_at risk_bits place

-- no other bit is found
abbrev pub FindsRiskBits : Progress Judged → Type 0
FindsRiskBits (Wants command) = ⊤
FindsRiskBits (Stopped cause) = ⊤
FindsRiskBits (Done judged rest) = AreRiskBits judged.tvr.0

-- whatever the card answers, risk management finds no bit but its own
abbrev pub RiskBitsAreOwn : Type 0
RiskBitsAreOwn =
    (card : ReadCard) (settings : SettingsData) (row : AidRow) (purchase : PurchaseData) (log : List Logged) (answers : List (List ℕ))
    → FindsRiskBits (risky card settings row purchase log answers)
