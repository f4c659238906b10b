-- The boxes and P, on words and on bits.
use Rattle.std.proofs.Common.{◌≡◌, true, ℕ, zero, suc, ◌+◌, ◌-◌, ◌*◌, ◌/◌, ◌%◌, ◌^◌, ◌<◌, List, [], ◌∷◌, ◌++◌, length, get_or, take, drop, replicate, refl, ap, sym, ◌∙◌, arith, append_assoc, bit_xor}
use Rattle.std.specs.Int.{bit_at}
use Rattle.std.proofs.lemmas.List.{take_at, drop_at, drop-drop, take_more, length-take-le, length-append, length-replicate, append-nil}
use Rattle.triple_des.specs.declared.tables.TheConstants.{MERGED}
use Rattle.triple_des.specs.Bits.{bits, number_from_bits, pick, xor}
use Rattle.triple_des.specs.Tables.{box_tables, expansion_table, permutation_table}
use Rattle.triple_des.specs.Des.{box_bits, placed, substituted}
use Rattle.triple_des.proofs.Below.{all_below, below_at, same, same-true}
use Rattle.triple_des.proofs.Added.{pick-xor, take-xor, drop-xor, side_by_side}
use Rattle.triple_des.proofs.ByteLists.{small_append, small_bits, small_zeros}
use Rattle.triple_des.proofs.Words.{length-bits, bits_split, bits_mod, bits_cat, bits_push, bits_xor}

-- each of the 512 words is P of what its box gives
all_merged : all_below (λ n. all_below (λ six. same (bits 32 (get_or (get_or MERGED n []) six 0)) (pick permutation_table (placed n (box_bits (get_or box_tables n []) (bits 6 six))))) 64) 8 ≡ true
unfolding bits number_from_bits pick permutation_table placed box_bits box_tables
all_merged = refl

pub merged_bits : (n six : ℕ) → n < 8 → six < 64 → bits 32 (get_or (get_or MERGED n []) six 0) ≡ pick permutation_table (placed n (box_bits (get_or box_tables n []) (bits 6 six)))
merged_bits n six box small =
    same-true (bits 32 (get_or (get_or MERGED n []) six 0)) (pick permutation_table (placed n (box_bits (get_or box_tables n []) (bits 6 six))))
    (below_at (λ s. same (bits 32 (get_or (get_or MERGED n []) s 0)) (pick permutation_table (placed n (box_bits (get_or box_tables n []) (bits 6 s))))) 64 six
    (below_at (λ k. all_below (λ s. same (bits 32 (get_or (get_or MERGED k []) s 0)) (pick permutation_table (placed k (box_bits (get_or box_tables k []) (bits 6 s))))) 64) 8 n all_merged box) small)

-- ---- the six bits of a box

lowest : (x : ℕ) → bits 1 (x % 2) ≡ bit_at x 0 ∷ []
unfolding bits
lowest x = let e : bit_at (x % 2) 0 ≡ bit_at x 0 = omega arith in ap (λ (b : ℕ). b ∷ []) e

-- a half between its last bit and its first
pub bits-ringed : (half : ℕ) → half < 2 ^ 32 → bits 34 (half % 2 * 2 ^ 33 + half * 2 + half / 2 ^ 31) ≡ bit_at half 0 ∷ bits 32 half ++ bit_at half 31 ∷ []
bits-ringed half small =
    let bit : half / 2 ^ 31 < 2 = omega arith in
    let last : half / 2 ^ 31 ≡ bit_at half 31 = omega arith in
    let low : half * 2 + half / 2 ^ 31 < 2 ^ 33 = omega arith in
    let regrouped : half % 2 * 2 ^ 33 + half * 2 + half / 2 ^ 31 ≡ half % 2 * 2 ^ 33 + (half * 2 + half / 2 ^ 31) = omega arith in
    ap (λ (w : ℕ). bits 34 w) regrouped
    ∙ bits_cat 1 33 (half % 2) (half * 2 + half / 2 ^ 31) low
    ∙ ap (λ (l : List ℕ). l ++ bits 33 (half * 2 + half / 2 ^ 31)) (lowest half)
    ∙ ap (λ (l : List ℕ). bit_at half 0 ∷ l) (bits_push 32 half (half / 2 ^ 31) bit ∙ ap (λ (b : ℕ). bits 32 half ++ b ∷ []) last)

-- E takes six bits side by side for each box
side_by_six : (half i : ℕ) → i < 8 → take 6 (drop (4 * i) (bit_at half 0 ∷ bits 32 half ++ bit_at half 31 ∷ [])) ≡ take 6 (drop (6 * i) (pick expansion_table (bits 32 half)))
unfolding bits pick expansion_table
side_by_six half zero below = refl
side_by_six half (suc zero) below = refl
side_by_six half (suc (suc zero)) below = refl
side_by_six half (suc (suc (suc zero))) below = refl
side_by_six half (suc (suc (suc (suc zero)))) below = refl
side_by_six half (suc (suc (suc (suc (suc zero))))) below = refl
side_by_six half (suc (suc (suc (suc (suc (suc zero)))))) below = refl
side_by_six half (suc (suc (suc (suc (suc (suc (suc zero))))))) below = refl
side_by_six half (suc (suc (suc (suc (suc (suc (suc (suc i)))))))) below = absurd (omega arith)

-- six bits in the middle of a word
bits_middle : (before behind x : ℕ) → take 6 (drop before (bits (before + (6 + behind)) x)) ≡ bits 6 (x / 2 ^ behind)
bits_middle before behind x =
    ap (λ (l : List ℕ). take 6 (drop before l)) (bits_split before (6 + behind) x)
    ∙ ap (λ (l : List ℕ). take 6 l) (drop_at (bits before (x / 2 ^ (6 + behind))) (bits (6 + behind) x) before (length-bits before (x / 2 ^ (6 + behind))))
    ∙ ap (λ (l : List ℕ). take 6 l) (bits_split 6 behind x)
    ∙ take_at (bits 6 (x / 2 ^ behind)) (bits behind x) 6 (length-bits 6 (x / 2 ^ behind))

-- what a box takes of E(R) xor K, cut out of words
pub six_bits : (half ring key i : ℕ) → i < 8 → bits 34 ring ≡ bit_at half 0 ∷ bits 32 half ++ bit_at half 31 ∷ [] → bits 6 (bit_xor (ring / 2 ^ (28 - 4 * i)) (key / 2 ^ (42 - 6 * i)) % 64) ≡ take 6 (drop (6 * i) (xor (pick expansion_table (bits 32 half)) (bits 48 key)))
six_bits half ring key i below is =
    let of_half : ℕ = ring / 2 ^ (28 - 4 * i) in
    let of_key : ℕ = key / 2 ^ (42 - 6 * i) in
    let expanded : List ℕ = pick expansion_table (bits 32 half) in
    let half_width : 4 * i + (6 + (28 - 4 * i)) ≡ 34 = omega arith in
    let key_width : 6 * i + (6 + (42 - 6 * i)) ≡ 48 = omega arith in
    let half_six : bits 6 of_half ≡ take 6 (drop (6 * i) expanded) =
    sym (bits_middle (4 * i) (28 - 4 * i) ring) ∙ ap (λ (n : ℕ). take 6 (drop (4 * i) (bits n ring))) half_width
    ∙ ap (λ (l : List ℕ). take 6 (drop (4 * i) l)) is ∙ side_by_six half i below in
    let key_six : bits 6 of_key ≡ take 6 (drop (6 * i) (bits 48 key)) =
    sym (bits_middle (6 * i) (42 - 6 * i) key) ∙ ap (λ (n : ℕ). take 6 (drop (6 * i) (bits n key))) key_width in
    bits_mod 6 (bit_xor of_half of_key) 6 (omega arith)
    ∙ bits_xor 6 of_half of_key
    ∙ ap (λ (l : List ℕ). xor l (bits 6 of_key)) half_six
    ∙ ap (λ (l : List ℕ). xor (take 6 (drop (6 * i) expanded)) l) key_six
    ∙ sym (take-xor 6 (drop (6 * i) expanded) (drop (6 * i) (bits 48 key)))
    ∙ ap (λ (l : List ℕ). take 6 l) (sym (drop-xor (6 * i) expanded (bits 48 key)))

-- ---- the boxes one after another

-- one box more takes the next six bits
substituted_push : (boxes : List (List (List ℕ))) (box : List (List ℕ)) (bs : List ℕ) → substituted (boxes ++ box ∷ []) bs ≡ substituted boxes bs ++ box_bits box (take 6 (drop (6 * length boxes) bs))
unfolding substituted
substituted_push [] box bs = append-nil (box_bits box (take 6 bs))
substituted_push (first ∷ boxes) box bs =
    let places : drop (6 * length boxes) (drop 6 bs) ≡ drop (6 * suc (length boxes)) bs = drop-drop (6 * length boxes) 6 bs ∙ ap (λ (n : ℕ). drop n bs) (let e : 6 + 6 * length boxes ≡ 6 * suc (length boxes) = omega arith in e) in
    ap (λ (l : List ℕ). box_bits first (take 6 bs) ++ l) (substituted_push boxes box (drop 6 bs))
    ∙ ap (λ (l : List ℕ). box_bits first (take 6 bs) ++ (substituted boxes (drop 6 bs) ++ box_bits box (take 6 l))) places
    ∙ sym (append_assoc (box_bits first (take 6 bs)) (substituted boxes (drop 6 bs)) (box_bits box (take 6 (drop (6 * suc (length boxes)) bs))))

length-box_bits : (box : List (List ℕ)) (six : List ℕ) → length (box_bits box six) ≡ 4
unfolding box_bits bits
length-box_bits box six = refl

small_selected : (box : List (List ℕ)) (six : List ℕ) (i : ℕ) → get_or (box_bits box six) i 0 < 2
unfolding box_bits
small_selected box six i = small_bits 4 _ i

length-substituted : (boxes : List (List (List ℕ))) (bs : List ℕ) → length (substituted boxes bs) ≡ 4 * length boxes
unfolding substituted
length-substituted [] bs = refl
length-substituted (box ∷ boxes) bs =
    length-append (box_bits box (take 6 bs)) (substituted boxes (drop 6 bs))
    ∙ omega (arith, length-box_bits box (take 6 bs), length-substituted boxes (drop 6 bs))

small_substituted : (boxes : List (List (List ℕ))) (bs : List ℕ) (i : ℕ) → get_or (substituted boxes bs) i 0 < 2
unfolding substituted
small_substituted [] bs i = omega arith
small_substituted (box ∷ boxes) bs i =
    small_append (box_bits box (take 6 bs)) (substituted boxes (drop 6 bs)) (small_selected box (take 6 bs)) (small_substituted boxes (drop 6 bs)) i

-- P of what the first i boxes give, with 0 where the others will stand
abbrev pub so_far : ℕ → List ℕ → List ℕ
so_far i bs = pick permutation_table (substituted (take i box_tables) bs ++ replicate (32 - 4 * i) 0)

pub no_box : (bs : List ℕ) → bits 32 0 ≡ so_far 0 bs
unfolding bits pick permutation_table substituted
no_box bs = refl

-- one box more, added
pub box_more : (bs : List ℕ) (out i word : ℕ) → i < 8 → bits 32 word ≡ pick permutation_table (placed i (box_bits (get_or box_tables i []) (take 6 (drop (6 * i) bs)))) → bits 32 out ≡ so_far i bs → bits 32 (bit_xor out word) ≡ so_far (i + 1) bs
unfolding box_tables placed
box_more bs out i word below is before =
    let box : List (List ℕ) = get_or box_tables i [] in
    let front : List (List (List ℕ)) = take i box_tables in
    let done : List ℕ = substituted front bs in
    let four : List ℕ = box_bits box (take 6 (drop (6 * i) bs)) in
    let zeros : List ℕ = replicate (28 - 4 * i) 0 in
    let taken : length front ≡ i = length-take-le i box_tables (omega arith) in
    let done_long : length done ≡ 4 * i = length-substituted front bs ∙ ap (λ (n : ℕ). 4 * n) taken in
    let rest_long : length (four ++ zeros) ≡ 32 - 4 * i = length-append four zeros ∙ omega (arith, length-box_bits box (take 6 (drop (6 * i) bs)), length-replicate {A = ℕ} (28 - 4 * i) 0) in
    let next : substituted (take (i + 1) box_tables) bs ≡ done ++ four =
    ap (λ (t : List (List (List ℕ))). substituted t bs) (take_more box_tables i [] below)
    ∙ substituted_push front box bs
    ∙ ap (λ (n : ℕ). done ++ box_bits box (take 6 (drop (6 * n) bs))) taken in
    let fewer : 28 - 4 * i ≡ 32 - 4 * (i + 1) = omega arith in
    let sum : xor (done ++ replicate (32 - 4 * i) 0) (placed i four) ≡ substituted (take (i + 1) box_tables) bs ++ replicate (32 - 4 * (i + 1)) 0 =
    ap (λ (n : ℕ). xor (done ++ replicate n 0) (placed i four)) (sym rest_long)
    ∙ ap (λ (n : ℕ). xor (done ++ replicate (length (four ++ zeros)) 0) (replicate n 0 ++ (four ++ zeros))) (sym done_long)
    ∙ side_by_side done (four ++ zeros) (small_substituted front bs) (small_append four zeros (small_selected box (take 6 (drop (6 * i) bs))) (small_zeros (28 - 4 * i)))
    ∙ sym (append_assoc done four zeros)
    ∙ ap (λ (l : List ℕ). l ++ zeros) (sym next)
    ∙ ap (λ (n : ℕ). substituted (take (i + 1) box_tables) bs ++ replicate n 0) fewer in
    let sizes : length (done ++ replicate (32 - 4 * i) 0) ≡ length (placed i four) =
    length-append done (replicate (32 - 4 * i) 0)
    ∙ omega (arith, done_long, rest_long, length-replicate {A = ℕ} (32 - 4 * i) 0, length-replicate {A = ℕ} (4 * i) 0, length-append (replicate (4 * i) 0) (four ++ zeros)) in
    bits_xor 32 out word
    ∙ ap (λ (l : List ℕ). xor l (bits 32 word)) before
    ∙ ap (λ (l : List ℕ). xor (so_far i bs) l) is
    ∙ sym (pick-xor permutation_table (done ++ replicate (32 - 4 * i) 0) (placed i four) sizes)
    ∙ ap (λ (l : List ℕ). pick permutation_table l) sum

pub all_boxes : (bs : List ℕ) → so_far 8 bs ≡ pick permutation_table (substituted box_tables bs)
unfolding box_tables
all_boxes bs = ap (λ (l : List ℕ). pick permutation_table l) (append-nil (substituted box_tables bs))
