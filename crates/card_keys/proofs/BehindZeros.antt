-- Zeros, and the digits of account number and sequence number behind them.
use Rattle.std.proofs.Common.{ℕ, zero, suc, ◌<◌, ◌/◌, ◌%◌, List, [], ◌∷◌, ◌++◌, get_or, length, replicate, arith}
use Rattle.std.proofs.lemmas.List.Elements.{All-append}
use Rattle.std.specs.List.{All}
use Rattle.emv_dict.specs.Digits.{AllDecimal}
use Rattle.card_keys.specs.Master.{pan_and_sequence}

zeros_small : (n k d : ℕ) → k < length (replicate {A = ℕ} n 0) → get_or (replicate {A = ℕ} n 0) k d < 16
zeros_small zero k d within = absurd (omega arith)
zeros_small (suc n) zero d within = omega arith
zeros_small (suc n) (suc k) d within = zeros_small n k d (omega (arith, within))

halves_small : (byte : ℕ) → byte < 256 → (k d : ℕ) → k < 2 → get_or (byte / 16 ∷ byte % 16 ∷ []) k d < 16
halves_small byte small zero d within = omega arith
halves_small byte small (suc zero) d within = omega arith
halves_small byte small (suc (suc k)) d within = absurd (omega arith)

-- they are digits
pub behind_zeros_small : (zeros : ℕ) (pan : List ℕ) (sequence : ℕ) → AllDecimal pan → sequence < 256 → All (λ d. d < 16) (replicate zeros 0 ++ pan_and_sequence pan sequence)
behind_zeros_small zeros pan sequence decimal byte =
    let below : All (λ d. d < 16) pan = λ k d within. let nine = decimal k d within in omega (arith, nine) in
    let two : All (λ d. d < 16) (sequence / 16 ∷ sequence % 16 ∷ []) = halves_small sequence byte in
    All-append (λ d. d < 16) (replicate zeros 0) (pan_and_sequence pan sequence) (zeros_small zeros)
    (All-append (λ d. d < 16) pan (sequence / 16 ∷ sequence % 16 ∷ []) below two)
