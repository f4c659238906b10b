-- Fields one behind the other.
use Rattle.std.proofs.Common.{◌≡◌, ℕ, ◌+◌, List, ◌++◌, length, take, ap, sym, ◌∙◌}

-- one field more
pub put_behind : (front before next field : List ℕ) (at behind : ℕ) → take at before ≡ front → at + length field ≡ behind → take (at + length field) next ≡ take at before ++ field → take behind next ≡ front ++ field
put_behind front before next field at behind so_far ends put =
    ap (λ (n : ℕ). take n next) (sym ends) ∙ put ∙ ap (λ (l : List ℕ). l ++ field) so_far
