-- Deciphering undoes enciphering.
use Rattle.std.proofs.Common.{◌≡◌, ℕ, zero, suc, ◌+◌, ◌-◌, ◌*◌, ◌%◌, ◌<◌, ◌≤◌, List, [], ◌∷◌, ◌++◌, length, get_or, take, drop, map, reverse, refl, ap, sym, ◌∙◌, arith, subst, Bool, true, min, ◌&&◌, nat_lt, nat_eq}
use mathlib.Core.List.{reverse_aux}
use Rattle.std.proofs.lemmas.Bool.{and_parts, eqb-true, ltb-true}
use Rattle.std.proofs.lemmas.Grind.{reverse_onto, same_number_lists}
use Rattle.std.proofs.lemmas.List.{take_at, drop_at, length-map, get_or-map, take-append-drop, length-append, length-take, length-drop, get_or-drop, reverse-reverse}
use Rattle.std.proofs.lemmas.List.Sums.{fold-append}
use Rattle.triple_des.specs.Bits.{pick, xor, bits_of_each_byte, bytes_from_bits}
use Rattle.triple_des.specs.Tables.{initial_table, final_table, permutation_table}
use Rattle.triple_des.specs.Des.{cipher_function, round, rounds, halves_of, swapped, cipher, enciphered, deciphered}
use Rattle.triple_des.proofs.Below.{all_below, below_at}
use Rattle.triple_des.proofs.ByteLists.{small_append, length-bits_of_each_byte, small_bits_of, bytes_from_bits-bits_of_each_byte, bits_of_each_byte-bytes_from_bits}

-- a list of bits
pub record IsBits (n : ℕ) (bs : List ℕ) : Type 0 where
  pub long : length bs ≡ n
  pub small : (i : ℕ) → get_or bs i 0 < 2

-- two halves of bits
abbrev pub AreHalves : List ℕ × List ℕ → Type 0
AreHalves halves = IsBits 32 halves.0 × IsBits 32 halves.1

map-reverse_aux : (f : ℕ → List ℕ) (xs ys : List ℕ) → map f (reverse_aux xs ys) ≡ reverse_aux (map f xs) (map f ys)
map-reverse_aux f [] ys = refl
map-reverse_aux f (x ∷ xs) ys = map-reverse_aux f xs (x ∷ ys)

pub map-reverse : (f : ℕ → List ℕ) (xs : List ℕ) → map f (reverse xs) ≡ reverse (map f xs)
map-reverse f xs = map-reverse_aux f xs []

-- ---- adding twice

length-xor : (xs ys : List ℕ) → length xs ≤ length ys → length (xor xs ys) ≡ length xs
unfolding xor
length-xor [] ys fits = refl
length-xor (x ∷ xs) [] fits = absurd (omega arith)
length-xor (x ∷ xs) (y ∷ ys) fits = ap (λ (n : ℕ). suc n) (length-xor xs ys (omega arith))

get_or-xor : (xs ys : List ℕ) (i : ℕ) → get_or (xor xs ys) i 0 < 2
unfolding xor
get_or-xor [] ys i = omega arith
get_or-xor (x ∷ xs) [] i = omega arith
get_or-xor (x ∷ xs) (y ∷ ys) zero = omega arith
get_or-xor (x ∷ xs) (y ∷ ys) (suc i) = get_or-xor xs ys i

xor_twice : (xs ys : List ℕ) → length xs ≤ length ys → ((i : ℕ) → get_or xs i 0 < 2) → xor (xor xs ys) ys ≡ xs
unfolding xor
xor_twice [] ys fits small = refl
xor_twice (x ∷ xs) [] fits small = absurd (omega arith)
xor_twice (x ∷ xs) (y ∷ ys) fits small =
    let first : x < 2 = small 0 in
    let same : ((x + y) % 2 + y) % 2 ≡ x = omega arith in
    ap (λ (b : ℕ). b ∷ xor (xor xs ys) ys) same
    ∙ ap (λ (l : List ℕ). x ∷ l) (xor_twice xs ys (omega arith) (λ i. small (suc i)))

-- ---- the rounds

length-cipher_function : (right key : List ℕ) → length (cipher_function right key) ≡ 32
unfolding cipher_function pick permutation_table
length-cipher_function right key = refl

mixed_is_half : (left right key : List ℕ) → IsBits 32 left → IsBits 32 (xor left (cipher_function right key))
mixed_is_half left right key half =
    let mixed : List ℕ = cipher_function right key in
    let mixed_long : length mixed ≡ 32 = length-cipher_function right key in
    let fits : length left ≤ length mixed = omega (arith, half.long, mixed_long) in
    record { long = length-xor left mixed fits ∙ half.long; small = λ i. get_or-xor left mixed i }

mixed_twice : (left right key : List ℕ) → IsBits 32 left → xor (xor left (cipher_function right key)) (cipher_function right key) ≡ left
mixed_twice left right key half =
    let mixed : List ℕ = cipher_function right key in
    let mixed_long : length mixed ≡ 32 = length-cipher_function right key in
    xor_twice left mixed (omega (arith, half.long, mixed_long)) half.small

-- the halves the other way round
abbrev pub crossed : List ℕ × List ℕ → List ℕ × List ℕ
crossed halves = (halves.1, halves.0)

rounds_are_halves : (keys : List (List ℕ)) (left right : List ℕ) → IsBits 32 left → IsBits 32 right → AreHalves (rounds keys (left, right))
unfolding rounds round
rounds_are_halves [] left right l r = (l, r)
rounds_are_halves (key ∷ keys) left right l r =
    rounds_are_halves keys right (xor left (cipher_function right key)) r (mixed_is_half left right key l)

rounds_push : (keys : List (List ℕ)) (key : List ℕ) (halves : List ℕ × List ℕ) → rounds (keys ++ key ∷ []) halves ≡ round (rounds keys halves) key
unfolding rounds
rounds_push keys key halves = fold-append round halves keys (key ∷ [])

-- the rounds with the keys in reverse, on crossed halves, give back the crossed halves
rounds_undone : (keys : List (List ℕ)) (left right : List ℕ) → IsBits 32 left → IsBits 32 right → rounds (reverse keys) (crossed (rounds keys (left, right))) ≡ (right, left)
unfolding rounds round
rounds_undone [] left right l r = refl
rounds_undone (key ∷ keys) left right l r =
    let mixed : List ℕ = xor left (cipher_function right key) in
    let last : List ℕ × List ℕ = crossed (rounds keys (right, mixed)) in
    ap (λ (ks : List (List ℕ)). rounds ks last) (reverse_onto keys key [])
    ∙ rounds_push (reverse keys) key last
    ∙ ap (λ (h : List ℕ × List ℕ). round h key) (rounds_undone keys right mixed r (mixed_is_half left right key l))
    ∙ ap (λ (b : List ℕ). (right, b)) (mixed_twice left right key l)

-- ---- the permutations

-- whether the outer table takes back what the inner does
abbrev pub takes_back : List ℕ → List ℕ → Bool
takes_back outer inner = all_below (λ i. nat_lt (get_or outer i 0 - 1) 64 && nat_eq (get_or inner (get_or outer i 0 - 1) 0 - 1) i) 64

final_after_initial : takes_back final_table initial_table ≡ true
unfolding final_table initial_table
final_after_initial = refl

initial_after_final : takes_back initial_table final_table ≡ true
unfolding final_table initial_table
initial_after_final = refl

pick_undone : (outer inner bs : List ℕ) → length outer ≡ 64 → length inner ≡ 64 → length bs ≡ 64 → takes_back outer inner ≡ true → pick outer (pick inner bs) ≡ bs
unfolding pick
pick_undone outer inner bs long_outer long_inner long back =
    let from : ℕ → ℕ = λ p. get_or bs (p - 1) 0 in
    let picked : List ℕ = map from inner in
    let to : ℕ → ℕ = λ p. get_or picked (p - 1) 0 in
    same_number_lists (map to outer) bs (length-map outer to ∙ long_outer ∙ sym long) (λ i below.
    let i_below : i < length outer = omega (arith, length-map outer to) in
    let test = and_parts (nat_lt (get_or outer i 0 - 1) 64) (nat_eq (get_or inner (get_or outer i 0 - 1) 0 - 1) i)
    (below_at (λ k. nat_lt (get_or outer k 0 - 1) 64 && nat_eq (get_or inner (get_or outer k 0 - 1) 0 - 1) k) 64 i back (omega (arith, long_outer))) in
    let place_below : get_or outer i 0 - 1 < length inner = omega (arith, ltb-true (get_or outer i 0 - 1) 64 test.0, long_inner) in
    get_or-map to outer i 0 0 i_below
    ∙ get_or-map from inner (get_or outer i 0 - 1) 0 0 place_below
    ∙ ap (λ (k : ℕ). get_or bs k 0) (eqb-true (get_or inner (get_or outer i 0 - 1) 0 - 1) i test.1))

picked_bits : (table bs : List ℕ) → ((i : ℕ) → get_or bs i 0 < 2) → (i : ℕ) → get_or (pick table bs) i 0 < 2
unfolding pick
picked_bits [] bs small i = omega arith
picked_bits (place ∷ table) bs small zero = small (place - 1)
picked_bits (place ∷ table) bs small (suc i) = picked_bits table bs small i

length-initial : (bs : List ℕ) → length (pick initial_table bs) ≡ 64
unfolding pick initial_table
length-initial bs = refl

length-final : (bs : List ℕ) → length (pick final_table bs) ≡ 64
unfolding pick final_table
length-final bs = refl

sized_initial : length initial_table ≡ 64
unfolding initial_table
sized_initial = refl

sized_final : length final_table ≡ 64
unfolding final_table
sized_final = refl

initial_undone : (bs : List ℕ) → length bs ≡ 64 → pick final_table (pick initial_table bs) ≡ bs
initial_undone bs long = pick_undone final_table initial_table bs sized_final sized_initial long final_after_initial

final_undone : (bs : List ℕ) → length bs ≡ 64 → pick initial_table (pick final_table bs) ≡ bs
final_undone bs long = pick_undone initial_table final_table bs sized_initial sized_final long initial_after_final

-- ---- the whole cipher

crossed_halves : (halves : List ℕ × List ℕ) → length halves.1 ≡ 32 → halves_of (swapped halves) ≡ crossed halves
crossed_halves (left, right) long =
    ap (λ (l : List ℕ). (l, drop 32 (right ++ left))) (take_at right left 32 long)
    ∙ ap (λ (l : List ℕ). (right, l)) (drop_at right left 32 long)

joined_halves : (bs : List ℕ) → swapped (crossed (halves_of bs)) ≡ bs
joined_halves bs = take-append-drop 32 bs

taken_half : (bs : List ℕ) → IsBits 64 bs → AreHalves (halves_of bs)
taken_half bs all = (
  record { long = length-take 32 bs ∙ let e : min 32 (length bs) ≡ 32 = omega (arith, all.long) in e; small = λ i. taken_small 32 bs i all.small },
  record { long = length-drop 32 bs ∙ let e : length bs - 32 ≡ 32 = omega (arith, all.long) in e; small = λ i. subst (λ (b : ℕ). b < 2) (sym (get_or-drop 32 bs i 0)) (all.small (32 + i)) },
)
  where
    taken_small : (n : ℕ) (xs : List ℕ) (i : ℕ) → ((k : ℕ) → get_or xs k 0 < 2) → get_or (take n xs) i 0 < 2
    taken_small zero xs i small = omega arith
    taken_small (suc n) [] i small = omega arith
    taken_small (suc n) (x ∷ xs) zero small = small 0
    taken_small (suc n) (x ∷ xs) (suc i) small = taken_small n xs i (λ k. small (suc k))

cipher_undone : (keys : List (List ℕ)) (bs : List ℕ) → IsBits 64 bs → cipher (reverse keys) (cipher keys bs) ≡ bs
unfolding cipher
cipher_undone keys bs all =
    let start : List ℕ = pick initial_table bs in
    let start_bits : IsBits 64 start = record { long = length-initial bs; small = picked_bits initial_table bs all.small } in
    let h = taken_half start start_bits in
    let last : List ℕ × List ℕ = rounds keys (halves_of start) in
    let ends : AreHalves last = rounds_are_halves keys (take 32 start) (drop 32 start) h.0 h.1 in
    let long : length (swapped last) ≡ 64 = length-append last.1 last.0 ∙ (omega (arith, ends.0.long, ends.1.long)) in
    ap (λ (l : List ℕ). pick final_table (swapped (rounds (reverse keys) (halves_of l)))) (final_undone (swapped last) long)
    ∙ ap (λ (p : List ℕ × List ℕ). pick final_table (swapped (rounds (reverse keys) p))) (crossed_halves last ends.1.long)
    ∙ ap (λ (p : List ℕ × List ℕ). pick final_table (swapped p)) (rounds_undone keys (take 32 start) (drop 32 start) h.0 h.1)
    ∙ ap (λ (l : List ℕ). pick final_table l) (joined_halves start)
    ∙ initial_undone bs all.long

cipher_is_bits : (keys : List (List ℕ)) (bs : List ℕ) → IsBits 64 bs → IsBits 64 (cipher keys bs)
unfolding cipher
cipher_is_bits keys bs all =
    let start : List ℕ = pick initial_table bs in
    let start_bits : IsBits 64 start = record { long = length-initial bs; small = picked_bits initial_table bs all.small } in
    let h = taken_half start start_bits in
    let last : List ℕ × List ℕ = rounds keys (halves_of start) in
    let ends : AreHalves last = rounds_are_halves keys (take 32 start) (drop 32 start) h.0 h.1 in
    record { long = length-final (swapped last); small = picked_bits final_table (swapped last) (small_append last.1 last.0 ends.1.small ends.0.small) }

-- ---- blocks

-- eight bytes
pub record IsBlock (bytes : List ℕ) : Type 0 where
  pub long : length bytes ≡ 8
  pub small : (i : ℕ) → get_or bytes i 0 < 256

block_bits : (block : List ℕ) → IsBlock block → IsBits 64 (bits_of_each_byte block)
block_bits block is = record { long = length-bits_of_each_byte block ∙ ap (λ (n : ℕ). 8 * n) is.long; small = small_bits_of block }

pub deciphered_undoes : (keys : List (List ℕ)) (block : List ℕ) → IsBlock block → deciphered keys (enciphered keys block) ≡ block
unfolding deciphered enciphered
deciphered_undoes keys block is =
    let coded : IsBits 64 (cipher keys (bits_of_each_byte block)) = cipher_is_bits keys (bits_of_each_byte block) (block_bits block is) in
    ap (λ (l : List ℕ). bytes_from_bits 8 (cipher (reverse keys) l)) (bits_of_each_byte-bytes_from_bits 8 (cipher keys (bits_of_each_byte block)) coded.long coded.small)
    ∙ ap (λ (l : List ℕ). bytes_from_bits 8 l) (cipher_undone keys (bits_of_each_byte block) (block_bits block is))
    ∙ ap (λ (n : ℕ). bytes_from_bits n (bits_of_each_byte block)) (sym is.long)
    ∙ bytes_from_bits-bits_of_each_byte block is.small

pub enciphered_undoes : (keys : List (List ℕ)) (block : List ℕ) → IsBlock block → enciphered keys (deciphered keys block) ≡ block
unfolding deciphered
enciphered_undoes keys block is =
    ap (λ (ks : List (List ℕ)). enciphered ks (enciphered (reverse keys) block)) (sym (reverse-reverse keys))
    ∙ deciphered_undoes (reverse keys) block is

-- ---- round keys in reverse

pub reversed_enciphers : (keys : List (List ℕ)) (block : List ℕ) → enciphered (reverse keys) block ≡ deciphered keys block
unfolding deciphered
reversed_enciphers keys block = refl

pub reversed_deciphers : (keys : List (List ℕ)) (block : List ℕ) → deciphered (reverse keys) block ≡ enciphered keys block
unfolding deciphered
reversed_deciphers keys block = ap (λ (ks : List (List ℕ)). enciphered ks block) (reverse-reverse keys)
