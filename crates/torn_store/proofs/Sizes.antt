-- Pages of 64 bytes or cells each, and the bytes of such pages one page after another.
use Rattle.std.proofs.Common.{◌≡◌, ◌<◌, ◌≤◌, ◌+◌, ◌-◌, ◌*◌, ℕ, zero, suc, List, [], ◌∷◌, ◌++◌, length, get_or, take, drop, map, replicate, refl, ap, sym, ◌∙◌, arith}
use Rattle.std.proofs.Math.ListN.{set}
use Rattle.std.proofs.lemmas.List.{map-set, length-map, length-replicate, length-append, get_or_append_left, get_or-append-add, take-map, drop-map, take-replicate, drop-replicate}
use Rattle.torn_store.specs.Layout.{bytes_of_pages}

set-replicate : (n i x : ℕ) → set (replicate n x) i x ≡ replicate n x
set-replicate zero i x = refl
set-replicate (suc n) zero x = refl
set-replicate (suc n) (suc i) x = ap (λ (l : List ℕ). x ∷ l) (set-replicate n i x)

module _ {X : Type 0} where
  abbrev pub Sized : ℕ → List (List X) → Type 0
  Sized n pages = map length pages ≡ replicate n 64

  pub sized_set : (n i : ℕ) (pages : List (List X)) (page : List X) → Sized n pages → length page ≡ 64 → Sized n (set pages i page)
  sized_set n i pages page sized long =
      map-set length pages i page ∙ ap (λ (l : List ℕ). set l i (length page)) sized ∙ ap (set (replicate n 64) i) long ∙ set-replicate n i 64

  pub sized_count : (n : ℕ) (pages : List (List X)) → Sized n pages → length pages ≡ n
  sized_count n pages sized = sym (length-map pages length) ∙ ap length sized ∙ length-replicate n 64

  pub sized_take : (n m : ℕ) (pages : List (List X)) → m ≤ n → Sized n pages → Sized m (take m pages)
  sized_take n m pages few sized = sym (take-map length m pages) ∙ ap (take m) sized ∙ take-replicate m n 64 few

  pub sized_drop : (n m : ℕ) (pages : List (List X)) → Sized (m + n) pages → Sized n (drop m pages)
  sized_drop n m pages sized =
      sym (drop-map length m pages) ∙ ap (drop m) sized ∙ drop-replicate m (m + n) 64 ∙ (let rest : m + n - m ≡ n = omega arith in ap (λ (k : ℕ). replicate k 64) rest)

pub joined_long : (n : ℕ) (pages : List (List ℕ)) → Sized n pages → length (bytes_of_pages pages) ≡ 64 * n
joined_long zero [] sized = refl
joined_long (suc n) [] sized = cc
joined_long zero (page ∷ pages) sized = cc
joined_long (suc n) (page ∷ pages) sized =
    let long : length page ≡ 64 = cc in
    let rest : map length pages ≡ replicate n 64 = cc in
    omega (arith, length-append page (bytes_of_pages pages), joined_long n pages rest)

-- each byte of the joined pages is one of a page
pub joined_at : (n p r : ℕ) (pages : List (List ℕ)) → Sized n pages → p < n → r < 64
    → get_or (bytes_of_pages pages) (64 * p + r) 0 ≡ get_or (get_or pages p []) r 0
joined_at n p r [] sized inside below = absurd (let none : length (replicate n 64) ≡ 0 = ap length (sym sized) in omega (arith, length-replicate {A = ℕ} n 64))
joined_at zero p r (page ∷ pages) sized inside below = cc
joined_at (suc n) zero r (page ∷ pages) sized inside below =
    let long : length page ≡ 64 = cc in
    let here : 64 * 0 + r ≡ r = omega arith in
    ap (λ (i : ℕ). get_or (page ++ bytes_of_pages pages) i 0) here ∙ get_or_append_left page (bytes_of_pages pages) 0 r (omega arith)
joined_at (suc n) (suc p) r (page ∷ pages) sized inside below =
    let long : length page ≡ 64 = cc in
    let rest : map length pages ≡ replicate n 64 = cc in
    let there : 64 * suc p + r ≡ length page + (64 * p + r) = omega arith in
    ap (λ (i : ℕ). get_or (page ++ bytes_of_pages pages) i 0) there ∙ get_or-append-add page (bytes_of_pages pages) (64 * p + r) 0
    ∙ joined_at n p r pages rest (omega arith) below
