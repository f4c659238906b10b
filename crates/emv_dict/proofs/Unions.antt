-- A bit of a union stands where a row that has it holds.
use Rattle.std.proofs.Common.{◌≡◌, ℕ, zero, suc, ◌<◌, ◌==◌, max, Bool, true, false, ◌||◌, List, [], ◌∷◌, bit_or, refl, ◌∙◌, ap, arith}
use Rattle.std.specs.Int.{bit_at}
use Rattle.std.proofs.lemmas.Nat.Bits.{bit_at_or, bit_at-lt, bit_at-zero}
use Rattle.emv_dict.specs.Flags.{bits_from, bits_where, some_row_has}

greater : (a b : ℕ) → a < 2 → b < 2 → (max a b == 1) ≡ ((a == 1) || (b == 1))
greater zero zero low high = refl
greater zero (suc zero) low high = refl
greater (suc zero) zero low high = refl
greater (suc zero) (suc zero) low high = refl
greater zero (suc (suc b)) low high = absurd (omega arith)
greater (suc zero) (suc (suc b)) low high = absurd (omega arith)
greater (suc (suc a)) b low high = absurd (omega arith)

either : (a b k : ℕ) → (bit_at (bit_or a b) k == 1) ≡ ((bit_at a k == 1) || (bit_at b k == 1))
either a b k = ap (λ n. n == 1) (bit_at_or a b k) ∙ greater (bit_at a k) (bit_at b k) (bit_at-lt a k) (bit_at-lt b k)

or_assoc : (a b c : Bool) → ((a || b) || c) ≡ (a || (b || c))
or_assoc true b c = refl
or_assoc false b c = refl

or_none : (b : Bool) → b ≡ (b || false)
or_none true = refl
or_none false = refl

behind : (set k : ℕ) (rows : List (Bool × ℕ)) → (bit_at (bits_from set rows) k == 1) ≡ ((bit_at set k == 1) || some_row_has k rows)
behind set k [] = or_none (bit_at set k == 1)
behind set k ((true, bits) ∷ rows) =
    behind (bit_or set bits) k rows ∙ ap (λ b. b || some_row_has k rows) (either set bits k)
    ∙ or_assoc (bit_at set k == 1) (bit_at bits k == 1) (some_row_has k rows)
behind set k ((false, bits) ∷ rows) = behind set k rows

pub union_has : (k : ℕ) (rows : List (Bool × ℕ)) → (bit_at (bits_where rows) k == 1) ≡ some_row_has k rows
union_has k rows = behind 0 k rows ∙ ap (λ n. (n == 1) || some_row_has k rows) (bit_at-zero k)
