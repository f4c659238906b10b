-- Bytes in hexadecimal, one more at their end.
use Rattle.std.proofs.Common.{◌≡◌, ℕ, ◌+◌, ◌/◌, ◌%◌, ◌<◌, List, [], ◌∷◌, ◌++◌, length, take, slice_index, refl, ap}
use Rattle.std.proofs.lemmas.List.{take_more}
use Rattle.hex.specs.Hex.{encode_with}

encode_with-push : (t xs : List ℕ) (b : ℕ)
    → encode_with t (xs ++ b ∷ []) ≡ encode_with t xs ++ slice_index t (b / 16) ∷ slice_index t (b % 16) ∷ []
unfolding encode_with
encode_with-push t [] b = refl
encode_with-push t (x ∷ xs) b = ap (λ (l : List ℕ). slice_index t (x / 16) ∷ slice_index t (x % 16) ∷ l) (encode_with-push t xs b)

pub encode_with-more : (t bytes : List ℕ) (i : ℕ) → i < length bytes
    → encode_with t (take (i + 1) bytes)
    ≡ encode_with t (take i bytes) ++ slice_index t (slice_index bytes i / 16) ∷ slice_index t (slice_index bytes i % 16) ∷ []
encode_with-more t bytes i inside = rw (take_more bytes i 0 inside) (encode_with-push t (take i bytes) (slice_index bytes i))
