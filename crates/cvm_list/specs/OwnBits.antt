-- The bits that cardholder verification finds, in other words.
use Rattle.std.specs.Prelude.{⊤, ℕ, ◌≤◌, List}
use Rattle.std.specs.Int.{bit_at}
use Rattle.cvm_list.specs.Begun.{cvm}
use Rattle.emv_dict.specs.Progress.{Progress, Wants, Stopped, Done}
use Rattle.emv_dict.specs.Views.{SettingsData, PurchaseData}
use Rattle.emv_dict.specs.declared.verified.Verified.{Verified}
use Rattle.object_lists.specs.CardRead.{ReadCard}

-- the bits of this step (EMV 4.3 Book 3 Annex C5), the five bytes of the terminal verification results one behind
-- another: bit 6 of the first byte, 8 to 3 of the third
abbrev pub verification_bits : ℕ
verification_bits = 0x2000FC0000

-- no bit stands outside them, at whichever place, counted from 0 at the right
abbrev pub AreVerificationBits : ℕ → Type 0
AreVerificationBits bits = (place : ℕ) → bit_at bits place ≤ bit_at verification_bits place

-- no other bit is found
abbrev pub FindsVerificationBits : Progress Verified → Type 0
FindsVerificationBits (Wants command) = ⊤
FindsVerificationBits (Stopped cause) = ⊤
FindsVerificationBits (Done verified rest) = AreVerificationBits verified.tvr.0

-- whatever the card answers, cardholder verification finds no bit but its own
abbrev pub VerificationBitsAreOwn : Type 0
VerificationBitsAreOwn = (card : ReadCard) (settings : SettingsData) (purchase : PurchaseData) (answers : List (List ℕ)) → FindsVerificationBits (cvm card settings purchase answers)
