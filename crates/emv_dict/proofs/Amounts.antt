-- The number of twelve digits by its six bytes.
use Rattle.std.proofs.Common.{◌≡◌, ℕ, ◌+◌, ◌*◌, List, [], ◌∷◌, length, get_or, arith}
use Rattle.emv_dict.specs.Bcd.{number_of_bcd, number_in}
use Rattle.emv_dict.specs.Nibbles.{nibbles}

pub number_of_six :
    (bs : List ℕ) → length bs ≡ 6
    → number_in bs ≡ number_of_bcd (get_or bs 0 0) * 10000000000 + number_of_bcd (get_or bs 1 0) * 100000000 + number_of_bcd (get_or bs 2 0) * 1000000
    + number_of_bcd (get_or bs 3 0) * 10000 + number_of_bcd (get_or bs 4 0) * 100 + number_of_bcd (get_or bs 5 0)
unfolding number_in nibbles
number_of_six [] six = absurd (omega arith)
number_of_six (a ∷ []) six = absurd (omega arith)
number_of_six (a ∷ b ∷ []) six = absurd (omega arith)
number_of_six (a ∷ b ∷ c ∷ []) six = absurd (omega arith)
number_of_six (a ∷ b ∷ c ∷ d ∷ []) six = absurd (omega arith)
number_of_six (a ∷ b ∷ c ∷ d ∷ e ∷ []) six = absurd (omega arith)
number_of_six (a ∷ b ∷ c ∷ d ∷ e ∷ f ∷ []) six = omega arith
number_of_six (a ∷ b ∷ c ∷ d ∷ e ∷ f ∷ g ∷ rest) six = absurd (omega arith)
