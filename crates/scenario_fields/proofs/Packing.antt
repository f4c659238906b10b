-- Three and six digits, two a byte.
use Rattle.std.proofs.Common.{◌≡◌, ℕ, ◌+◌, ◌*◌, List, [], ◌∷◌, length, get_or, refl, ap, arith}
use Rattle.emv_dict.specs.Nibbles.{packed}

pub packed_three : (ds : List ℕ) → length ds ≡ 3 → ◌≡◌ {A = List ℕ} (get_or ds 0 0 ∷ (get_or ds 1 0 * 16 + get_or ds 2 0) ∷ []) (packed (0 ∷ ds))
unfolding packed
packed_three (a ∷ b ∷ c ∷ []) is = let same : a ≡ 0 * 16 + a = omega arith in ap (λ x. x ∷ (b * 16 + c) ∷ []) same
packed_three [] is = absurd (omega arith)
packed_three (a ∷ []) is = absurd (omega arith)
packed_three (a ∷ b ∷ []) is = absurd (omega arith)
packed_three (a ∷ b ∷ c ∷ d ∷ ds) is = absurd (omega arith)

pub packed_six : (ds : List ℕ) → length ds ≡ 6 → ◌≡◌ {A = List ℕ} ((get_or ds 0 0 * 16 + get_or ds 1 0) ∷ (get_or ds 2 0 * 16 + get_or ds 3 0) ∷ (get_or ds 4 0 * 16 + get_or ds 5 0) ∷ []) (packed ds)
unfolding packed
packed_six (a ∷ b ∷ c ∷ d ∷ e ∷ f ∷ []) is = refl
packed_six [] is = absurd (omega arith)
packed_six (a ∷ []) is = absurd (omega arith)
packed_six (a ∷ b ∷ []) is = absurd (omega arith)
packed_six (a ∷ b ∷ c ∷ []) is = absurd (omega arith)
packed_six (a ∷ b ∷ c ∷ d ∷ []) is = absurd (omega arith)
packed_six (a ∷ b ∷ c ∷ d ∷ e ∷ []) is = absurd (omega arith)
packed_six (a ∷ b ∷ c ∷ d ∷ e ∷ f ∷ g ∷ ds) is = absurd (omega arith)
