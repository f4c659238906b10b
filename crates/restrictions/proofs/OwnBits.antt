-- No bit stands outside those of processing restrictions.
use Rattle.std.proofs.Common.{◌≡◌, ℕ, ◌≤◌, max, Bool, true, false, [], ◌∷◌, bit_or, refl, sym, ◌∙◌, ap, arith}
use Rattle.std.specs.Int.{bit_at}
use Rattle.std.proofs.lemmas.Nat.Bits.{bit_at_or}
use Rattle.emv_dict.specs.Flags.{bits_where, tvr_bit}
use Rattle.emv_dict.specs.Views.{SettingsData, PurchaseData}
use Rattle.emv_dict.specs.declared.purchase.AidRow.{AidRow}
use Rattle.object_lists.specs.CardRead.{ReadCard}
use Rattle.restrictions.specs.Laws.{restriction_bits, AreRestrictionBits}
use Rattle.restrictions.specs.Restricted.{restricted, versions_differ, service_not_allowed, not_yet_effective, expired}

-- bits that add none to others are among them
among : (bits own : ℕ) → bit_or bits own ≡ own → (place : ℕ) → bit_at bits place ≤ bit_at own place
among bits own same place =
    let joined : max (bit_at bits place) (bit_at own place) ≡ bit_at own place = sym (bit_at_or bits own place) ∙ ap (λ n. bit_at n place) same in
    omega arith

-- whichever of the four hold
whichever : (a b c d : Bool) → bit_or (bits_where ((a, tvr_bit 2 8) ∷ (b, tvr_bit 2 5) ∷ (c, tvr_bit 2 6) ∷ (d, tvr_bit 2 7) ∷ [])) restriction_bits ≡ restriction_bits
whichever true true true true = refl
whichever true true true false = refl
whichever true true false true = refl
whichever true true false false = refl
whichever true false true true = refl
whichever true false true false = refl
whichever true false false true = refl
whichever true false false false = refl
whichever false true true true = refl
whichever false true true false = refl
whichever false true false true = refl
whichever false true false false = refl
whichever false false true true = refl
whichever false false true false = refl
whichever false false false true = refl
whichever false false false false = refl

pub restricted_own : (card : ReadCard) (settings : SettingsData) (row : AidRow) (purchase : PurchaseData) → AreRestrictionBits (restricted card settings row purchase)
unfolding restricted
restricted_own card settings row purchase =
    among _ restriction_bits (whichever (versions_differ card row) (service_not_allowed card settings purchase) (not_yet_effective card purchase) (expired card purchase))
