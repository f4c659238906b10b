-- Blank pages, one after another.
use Rattle.std.proofs.Common.{ℕ, zero, suc, ◌<◌, List, [], ◌∷◌, ◌++◌, length, map, get_or, arith}
use Rattle.std.proofs.lemmas.List.Elements.{All-append}
use Rattle.std.specs.List.{All}
use Rattle.emv_ports.specs.Memory.{Memory, IsBlank}

pub blank_more : {A : Type 0} (f : A → Memory) (xs : List A) (x : A) → All IsBlank (map f xs) → IsBlank (f x) → All IsBlank (map f (xs ++ x ∷ []))
blank_more f [] x all one = go
  where
    go : (k : ℕ) (d : Memory) → k < 1 → IsBlank (get_or (f x ∷ []) k d)
    go zero d within = one
    go (suc k) d within = absurd (omega arith)
blank_more {A} f (y ∷ ys) x all one = go (blank_more f ys x (λ k d within. all (suc k) d (omega arith)) one)
  where
    go : All IsBlank (map f (ys ++ x ∷ [])) → (k : ℕ) (d : Memory) → k < length (map f ((y ∷ ys) ++ x ∷ [])) → IsBlank (get_or (map f ((y ∷ ys) ++ x ∷ [])) k d)
    go later zero d within = all 0 d (omega arith)
    go later (suc k) d within = later k d (omega arith)

pub all_more : {A : Type 0} (P : A → Type 0) (xs : List A) (x : A) → All P xs → P x → All P (xs ++ x ∷ [])
all_more P xs x all one = All-append P xs (x ∷ []) all last
  where
    last : (k : ℕ) (d : _) → k < 1 → P (get_or (x ∷ []) k d)
    last zero d within = one
    last (suc k) d within = absurd (omega arith)
