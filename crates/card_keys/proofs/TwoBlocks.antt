-- Two blocks, one behind the other.
use Rattle.std.proofs.Common.{◌≡◌, ℕ, List, [], ◌∷◌, ◌++◌, length, drop, ap, ◌∙◌}
use Rattle.std.proofs.lemmas.List.{take_at, drop_at, append-nil}
use borrow.Rule.Slice.PartMut.{put_mid}

-- the second half is written where zeros stood
pub put_second : (first second : List ℕ) → length first ≡ 8 → put_mid 8 8 (first ++ 0 ∷ 0 ∷ 0 ∷ 0 ∷ 0 ∷ 0 ∷ 0 ∷ 0 ∷ []) second ≡ first ++ second
put_second first second long =
    let zeros : List ℕ = 0 ∷ 0 ∷ 0 ∷ 0 ∷ 0 ∷ 0 ∷ 0 ∷ 0 ∷ [] in
    ap (λ (l : List ℕ). l ++ (second ++ drop 8 (drop 8 (first ++ zeros)))) (take_at first zeros 8 long)
    ∙ ap (λ (l : List ℕ). first ++ (second ++ drop 8 l)) (drop_at first zeros 8 long)
    ∙ ap (λ (l : List ℕ). first ++ l) (append-nil second)
