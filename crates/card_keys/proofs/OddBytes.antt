-- Every byte gets odd parity.
use Rattle.std.proofs.Common.{◌≡◌, ℕ, ◌+◌, ◌*◌, ◌/◌, ◌<◌, ◌%◌, ◌==◌, Bool, true, false, refl, ap, ◌∙◌, arith, List, [], ◌∷◌, length, map, take}
use Rattle.std.specs.Prelude.{count_ones, All, if◌then◌else◌}
use lib.Count.{ones}
use Rattle.std.proofs.lemmas.Bool.{agree_below_at, eqb-true}
use Rattle.card_keys.specs.Parity.{HasOddParity, odd_parity}

pub odd_parity_is_odd : (byte : ℕ) → byte < 256 → HasOddParity (odd_parity byte)
unfolding ones
odd_parity_is_odd byte small =
    eqb-true (count_ones (odd_parity byte) % 2) 1 (agree_below_at (λ b. count_ones (odd_parity b) % 2 == 1) (λ b. true) 256 byte refl small)

same_upper : (byte : ℕ) → odd_parity byte / 2 ≡ byte / 2
same_upper byte = at (count_ones (byte / 2 * 2) % 2 == 1)
  where
    at : (test : Bool) → (if test then byte / 2 * 2 else byte / 2 * 2 + 1) / 2 ≡ byte / 2
    at true = omega arith
    at false = omega arith

-- the lowest bit of each byte alone is set
pub upper_bits_stay : (bytes : List ℕ) → map (λ b. b / 2) (map odd_parity bytes) ≡ map (λ b. b / 2) bytes
upper_bits_stay [] = refl
upper_bits_stay (b ∷ bytes) =
    ap (λ (n : ℕ). n ∷ map (λ c. c / 2) (map odd_parity bytes)) (same_upper b) ∙ ap (λ (ns : List ℕ). b / 2 ∷ ns) (upper_bits_stay bytes)

-- the first i bytes are adjusted
pub record IsAdjusted (bytes adjusted : List ℕ) (i : ℕ) : Type 0 where
  pub sized : length adjusted ≡ 16
  pub mapped : take i adjusted ≡ map odd_parity (take i bytes)
  pub odd : All HasOddParity (take i adjusted)
