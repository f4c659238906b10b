-- The characters of digits.
use Rattle.std.proofs.Common.{◌≡◌, ℕ, zero, suc, ◌<◌, ◌≤◌, true, List, [], ◌∷◌, length, get_or, arith}
use Rattle.std.specs.Prelude.{nat_le}
use Rattle.std.proofs.lemmas.Bool.Decides.{nat_tests}
use Rattle.ber_tlv.proofs.ReadAgain.{both}
use Rattle.iso_message.specs.Text.{are_numerals, is_numeral}

at_least : (a b : ℕ) → nat_le a b ≡ true → a ≤ b
at_least a b is = grind (arith, nat_tests)

range : (a : ℕ) → is_numeral a ≡ true → (48 ≤ a) × (a ≤ 57)
range a is = let parts = both (nat_le 48 a) (nat_le a 57) is in (at_least 48 a parts.0, at_least a 57 parts.1)

-- each character is one from 48 to 57
pub numeral_at : (text : List ℕ) (k : ℕ) → are_numerals text ≡ true → k < length text → (48 ≤ get_or text k 0) × (get_or text k 0 ≤ 57)
numeral_at [] k all within = absurd (omega arith)
numeral_at (character ∷ text) zero all within = range character (both (is_numeral character) _ all).0
numeral_at (character ∷ text) (suc k) all within = numeral_at text k (both (is_numeral character) _ all).1 (omega arith)
