-- Digits packed pair by pair.
use Rattle.std.proofs.Common.{◌≡◌, ℕ, zero, suc, ◌+◌, ◌*◌, ◌<◌, List, [], ◌∷◌, ◌++◌, length, take, drop, set, get_or, refl, sym, ◌∙◌, ap, arith, append_assoc, length-drop}
use Rattle.std.proofs.lemmas.List.{take_more, take_more_set, length-take-le, get_or-drop}
use Rattle.emv_dict.specs.Nibbles.{packed}

packed-push : (ns : List ℕ) (n h l : ℕ) → length ns ≡ 2 * n → packed (ns ++ h ∷ l ∷ []) ≡ packed ns ++ (h * 16 + l) ∷ []
unfolding packed
packed-push [] n h l even = refl
packed-push (a ∷ []) n h l even = absurd (omega arith)
packed-push (a ∷ b ∷ ns) zero h l even = absurd (omega arith)
packed-push (a ∷ b ∷ ns) (suc n) h l even = ap (λ (xs : List ℕ). (a * 16 + b) ∷ xs) (packed-push ns n h l (omega arith))

take_pair : (ds : List ℕ) (i : ℕ) → 2 * i + 1 < length ds
    → take (2 * (i + 1)) ds ≡ take (2 * i) ds ++ get_or ds (2 * i) 0 ∷ get_or ds (2 * i + 1) 0 ∷ []
take_pair ds i within =
    let two : 2 * (i + 1) ≡ 2 * i + 1 + 1 = omega arith in
    ap (λ (n : ℕ). take n ds) two
    ∙ take_more ds (2 * i + 1) 0 within
    ∙ ap (λ (xs : List ℕ). xs ++ get_or ds (2 * i + 1) 0 ∷ []) (take_more ds (2 * i) 0 (omega arith))
    ∙ append_assoc (take (2 * i) ds) (get_or ds (2 * i) 0 ∷ []) (get_or ds (2 * i + 1) 0 ∷ [])

-- one byte more
pub packed_more : (bytes ds : List ℕ) (i : ℕ) → i < length bytes → 2 * i + 1 < length ds → take i bytes ≡ packed (take (2 * i) ds)
    → take (i + 1) (set bytes i (get_or ds (2 * i) 0 * 16 + get_or ds (2 * i + 1) 0)) ≡ packed (take (2 * (i + 1)) ds)
packed_more bytes ds i within paired so_far =
    let byte : ℕ = get_or ds (2 * i) 0 * 16 + get_or ds (2 * i + 1) 0 in
    take_more_set bytes i byte within
    ∙ ap (λ (xs : List ℕ). xs ++ byte ∷ []) so_far
    ∙ sym (packed-push (take (2 * i) ds) i (get_or ds (2 * i) 0) (get_or ds (2 * i + 1) 0) (length-take-le (2 * i) ds (omega arith)))
    ∙ ap (λ (xs : List ℕ). packed xs) (sym (take_pair ds i paired))

-- one number more of those behind the first two
pub copied_more : (numbers ns : List ℕ) (i x : ℕ) → i < length numbers → 2 + i < length ns → x ≡ get_or ns (2 + i) 0
    → take i numbers ≡ take i (drop 2 ns) → take (i + 1) (set numbers i x) ≡ take (i + 1) (drop 2 ns)
copied_more numbers ns i x within behind here so_far =
    let left : i < length (drop 2 ns) = simp length-drop (omega arith) in
    take_more_set numbers i x within
    ∙ ap (λ (xs : List ℕ). xs ++ x ∷ []) so_far
    ∙ ap (λ (y : ℕ). take i (drop 2 ns) ++ y ∷ []) (here ∙ sym (get_or-drop 2 ns i 0))
    ∙ sym (take_more (drop 2 ns) i 0 left)
