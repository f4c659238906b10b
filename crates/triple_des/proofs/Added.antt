-- Lists of bits, added.
use Rattle.std.proofs.Common.{◌≡◌, ℕ, zero, suc, ◌+◌, ◌-◌, ◌%◌, ◌<◌, List, [], ◌∷◌, ◌++◌, length, get_or, take, drop, replicate, refl, ap, ◌∙◌, arith}
use Rattle.triple_des.specs.Bits.{pick, xor}

get_or-added : (xs ys : List ℕ) (i : ℕ) → length xs ≡ length ys → get_or (xor xs ys) i 0 ≡ (get_or xs i 0 + get_or ys i 0) % 2
unfolding xor
get_or-added [] [] i long = refl
get_or-added [] (y ∷ ys) i long = absurd (omega arith)
get_or-added (x ∷ xs) [] i long = absurd (omega arith)
get_or-added (x ∷ xs) (y ∷ ys) zero long = refl
get_or-added (x ∷ xs) (y ∷ ys) (suc i) long = get_or-added xs ys i (omega arith)

-- a table picks from a sum the sum of what it picks
pub pick-xor : (table xs ys : List ℕ) → length xs ≡ length ys → pick table (xor xs ys) ≡ xor (pick table xs) (pick table ys)
unfolding pick xor
pick-xor [] xs ys long = refl
pick-xor (place ∷ table) xs ys long =
    ap (λ (b : ℕ). b ∷ pick table (xor xs ys)) (get_or-added xs ys (place - 1) long)
    ∙ ap (λ (l : List ℕ). (get_or xs (place - 1) 0 + get_or ys (place - 1) 0) % 2 ∷ l) (pick-xor table xs ys long)

pub take-xor : (n : ℕ) (xs ys : List ℕ) → take n (xor xs ys) ≡ xor (take n xs) (take n ys)
unfolding xor
take-xor zero xs ys = refl
take-xor (suc n) [] ys = refl
take-xor (suc n) (x ∷ xs) [] = refl
take-xor (suc n) (x ∷ xs) (y ∷ ys) = ap (λ (l : List ℕ). (x + y) % 2 ∷ l) (take-xor n xs ys)

xor-nil : (xs : List ℕ) → [] ≡ xor xs []
unfolding xor
xor-nil [] = refl
xor-nil (x ∷ xs) = refl

pub drop-xor : (n : ℕ) (xs ys : List ℕ) → drop n (xor xs ys) ≡ xor (drop n xs) (drop n ys)
unfolding xor
drop-xor zero xs ys = refl
drop-xor (suc n) [] ys = refl
drop-xor (suc n) (x ∷ xs) [] = xor-nil (drop n xs)
drop-xor (suc n) (x ∷ xs) (y ∷ ys) = drop-xor n xs ys

onto_zeros : (ys : List ℕ) → ((i : ℕ) → get_or ys i 0 < 2) → xor (replicate (length ys) 0) ys ≡ ys
unfolding xor
onto_zeros [] small = refl
onto_zeros (y ∷ ys) small =
    let bit : y < 2 = small 0 in
    let first : (0 + y) % 2 ≡ y = omega arith in
    ap (λ (b : ℕ). b ∷ xor (replicate (length ys) 0) ys) first
    ∙ ap (λ (l : List ℕ). y ∷ l) (onto_zeros ys (λ i. small (suc i)))

-- two lists of bits side by side are the sum of each with zeros in place of the other
pub side_by_side : (xs ys : List ℕ) → ((i : ℕ) → get_or xs i 0 < 2) → ((i : ℕ) → get_or ys i 0 < 2) → xor (xs ++ replicate (length ys) 0) (replicate (length xs) 0 ++ ys) ≡ xs ++ ys
unfolding xor
side_by_side [] ys small others = onto_zeros ys others
side_by_side (x ∷ xs) ys small others =
    let bit : x < 2 = small 0 in
    let first : (x + 0) % 2 ≡ x = omega arith in
    ap (λ (b : ℕ). b ∷ xor (xs ++ replicate (length ys) 0) (replicate (length xs) 0 ++ ys)) first
    ∙ ap (λ (l : List ℕ). x ∷ l) (side_by_side xs ys (λ i. small (suc i)) others)
