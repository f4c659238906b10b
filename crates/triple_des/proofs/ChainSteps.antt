-- Chained blocks.
use Rattle.std.proofs.Common.{◌≡◌, ℕ, suc, ◌+◌, ◌-◌, ◌*◌, ◌<◌, ◌≤◌, List, [], ◌∷◌, ◌++◌, length, get_or, set, take, drop, refl, ap, sym, ◌∙◌, arith, bit_xor}
use Rattle.std.proofs.lemmas.List.{take_more, take_more_set, drop-drop, length-take-le}
use Rattle.triple_des.specs.Bits.{xor_bytes}
use Rattle.triple_des.specs.Des.{enciphered}
use Rattle.triple_des.specs.Mac.{first_blocks, chained_from}

pub no_bytes : [] ≡ xor_bytes [] []
unfolding xor_bytes
no_bytes = refl

xor_bytes_push : (xs ys : List ℕ) (x y : ℕ) → length xs ≡ length ys → xor_bytes (xs ++ x ∷ []) (ys ++ y ∷ []) ≡ xor_bytes xs ys ++ bit_xor x y ∷ []
unfolding xor_bytes
xor_bytes_push [] [] x y same = refl
xor_bytes_push [] (b ∷ ys) x y same = absurd (omega arith)
xor_bytes_push (a ∷ xs) [] x y same = absurd (omega arith)
xor_bytes_push (a ∷ xs) (b ∷ ys) x y same = ap (λ (l : List ℕ). bit_xor a b ∷ l) (xor_bytes_push xs ys x y (omega arith))

-- one byte more of a sum
pub xor_bytes_step : (sum first second : List ℕ) (i : ℕ) → i < 8 → length sum ≡ 8 → length first ≡ 8 → length second ≡ 8 → take i sum ≡ xor_bytes (take i first) (take i second) → take (i + 1) (set sum i (bit_xor (get_or first i 0) (get_or second i 0))) ≡ xor_bytes (take (i + 1) first) (take (i + 1) second)
xor_bytes_step sum first second i below long long_first long_second so_far =
    let bit : ℕ = bit_xor (get_or first i 0) (get_or second i 0) in
    let in_first : i < length first = omega (arith, below, long_first) in
    let in_second : i < length second = omega (arith, below, long_second) in
    take_more_set sum i bit (omega (arith, below, long))
    ∙ ap (λ (l : List ℕ). l ++ bit ∷ []) so_far
    ∙ sym (xor_bytes_push (take i first) (take i second) (get_or first i 0) (get_or second i 0) (length-take-le i first (omega arith) ∙ sym (length-take-le i second (omega arith))))
    ∙ ap (λ (l : List ℕ). xor_bytes l (take i second ++ get_or second i 0 ∷ [])) (sym (take_more first i 0 in_first))
    ∙ ap (λ (l : List ℕ). xor_bytes (take (i + 1) first) l) (sym (take_more second i 0 in_second))

-- one block more
pub chain_step : (keys : List (List ℕ)) (state text : List ℕ) (count i : ℕ) → i < count → chained_from keys (enciphered keys (xor_bytes state (take 8 (drop (8 * i) text)))) (first_blocks (count - (i + 1)) (drop (8 * (i + 1)) text)) ≡ chained_from keys state (first_blocks (count - i) (drop (8 * i) text))
unfolding chained_from first_blocks
chain_step keys state text count i below =
    let left : count - i ≡ suc (count - (i + 1)) = omega arith in
    let places : 8 * i + 8 ≡ 8 * (i + 1) = omega arith in
    let next : List ℕ = enciphered keys (xor_bytes state (take 8 (drop (8 * i) text))) in
    let rest : drop 8 (drop (8 * i) text) ≡ drop (8 * (i + 1)) text = drop-drop 8 (8 * i) text ∙ ap (λ (n : ℕ). drop n text) places in
    ap (λ (l : List ℕ). chained_from keys next (first_blocks (count - (i + 1)) l)) (sym rest)
    ∙ ap (λ (n : ℕ). chained_from keys state (first_blocks n (drop (8 * i) text))) (sym left)

pub chain_ends : (keys : List (List ℕ)) (state rest : List ℕ) (count i : ℕ) → count ≤ i → chained_from keys state (first_blocks (count - i) rest) ≡ state
unfolding chained_from first_blocks
chain_ends keys state rest count i past =
    let none : count - i ≡ 0 = omega arith in
    ap (λ (n : ℕ). chained_from keys state (first_blocks n rest)) none
