-- One element more of a list whose bytes are appended.
use Rattle.std.proofs.Common.{◌≡◌, ℕ, ◌+◌, ◌<◌, List, [], ◌∷◌, ◌++◌, length, take, get_or, sym, ◌∙◌, ap, subst}
use Rattle.std.specs.List.{All, flat_map}
use Rattle.std.proofs.lemmas.List.{take_more, flat_map_more, get_or_default}
use Rattle.std.proofs.lemmas.List.Elements.{All-more}

module _ {X : Type 0} (xs : List X) (i : ℕ) (x : X) (within : i < length xs) (here : x ≡ get_or xs i x) where
  -- its bytes
  pub bytes_more : (f : X → List ℕ) (start before after : List ℕ) → before ≡ start ++ flat_map f (take i xs) → after ≡ before ++ f x
      → after ≡ start ++ flat_map f (take (i + 1) xs)
  bytes_more f start before after so_far this =
      this
      ∙ ap (λ (bs : List ℕ). bs ++ f x) so_far
      ∙ flat_map_more f start (take i xs) x
      ∙ ap (λ (ys : List X). start ++ flat_map f ys) (ap (λ (y : X). take i xs ++ y ∷ []) here ∙ sym (take_more xs i x within))

  -- and what is said of it
  pub all_more : (P : X → Type 0) → All P (take i xs) → P x → All P (take (i + 1) xs)
  all_more P so_far this = All-more P xs i x within so_far (subst P here this)

-- the same of an element that is read
module _ {X : Type 0} (xs : List X) (i : ℕ) (d : X) (within : i < length xs) where
  again : get_or xs i d ≡ get_or xs i (get_or xs i d)
  again = get_or_default xs i d (get_or xs i d) within

  pub read_bytes_more : (f : X → List ℕ) (start before after : List ℕ) → before ≡ start ++ flat_map f (take i xs) → after ≡ before ++ f (get_or xs i d)
      → after ≡ start ++ flat_map f (take (i + 1) xs)
  read_bytes_more f start before after so_far this = bytes_more xs i (get_or xs i d) within again f start before after so_far this

  pub read_all_more : (P : X → Type 0) → All P (take i xs) → P (get_or xs i d) → All P (take (i + 1) xs)
  read_all_more P so_far this = All-more P xs i d within so_far this
