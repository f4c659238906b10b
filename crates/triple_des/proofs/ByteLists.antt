-- Lists of bytes and lists of bits.
use Rattle.std.proofs.Common.{◌≡◌, ℕ, zero, suc, ◌+◌, ◌*◌, ◌%◌, ◌^◌, ◌<◌, ◌≤◌, List, [], ◌∷◌, ◌++◌, length, get_or, take, drop, replicate, refl, ap, sym, ◌∙◌, arith, subst}
use Rattle.std.specs.Int.{bit_at}
use Rattle.std.specs.List.{flat_map}
use Rattle.std.proofs.lemmas.Grind.{pow_more}
use Rattle.std.proofs.lemmas.List.{take_at, drop_at, length-append, length-take-le, length-drop, get_or-drop, take-append-drop}
use Rattle.std.proofs.lemmas.Nat.{div-mul-add}
use Rattle.std.proofs.lemmas.Nat.Bits.{bit_at-lt}
use Rattle.std.proofs.Math.Nat.{mod-eq_of_lt}
use Rattle.triple_des.specs.Bits.{bits, number_from_bits, bits_of_each_byte, bytes_from_bits}
use Rattle.triple_des.proofs.Words.{length-bits, bits_low}
use Rattle.triple_des.proofs.Bytes.{number_from_bits-bits}

-- ---- what is small

pub small_append : (xs ys : List ℕ) → ((i : ℕ) → get_or xs i 0 < 2) → ((i : ℕ) → get_or ys i 0 < 2) → (i : ℕ) → get_or (xs ++ ys) i 0 < 2
small_append [] ys small others i = others i
small_append (x ∷ xs) ys small others zero = small 0
small_append (x ∷ xs) ys small others (suc i) = small_append xs ys (λ k. small (suc k)) others i

pub small_zeros : (n i : ℕ) → get_or (replicate n 0) i 0 < 2
small_zeros zero i = omega arith
small_zeros (suc n) zero = omega arith
small_zeros (suc n) (suc i) = small_zeros n i

small_take : (n : ℕ) (xs : List ℕ) → ((k : ℕ) → get_or xs k 0 < 2) → (i : ℕ) → get_or (take n xs) i 0 < 2
small_take zero xs small i = omega arith
small_take (suc n) [] small i = omega arith
small_take (suc n) (x ∷ xs) small zero = small 0
small_take (suc n) (x ∷ xs) small (suc i) = small_take n xs (λ k. small (suc k)) i

small_drop : (n : ℕ) (xs : List ℕ) → ((k : ℕ) → get_or xs k 0 < 2) → (i : ℕ) → get_or (drop n xs) i 0 < 2
small_drop n xs small i = subst (λ (b : ℕ). b < 2) (sym (get_or-drop n xs i 0)) (small (n + i))

pub small_bits : (n x i : ℕ) → get_or (bits n x) i 0 < 2
unfolding bits
small_bits zero x i = omega arith
small_bits (suc n) x zero = bit_at-lt x n
small_bits (suc n) x (suc i) = small_bits n x i

pub small_bits_of : (bytes : List ℕ) (i : ℕ) → get_or (bits_of_each_byte bytes) i 0 < 2
unfolding bits_of_each_byte
small_bits_of [] i = omega arith
small_bits_of (byte ∷ bytes) i = small_append (bits 8 byte) (flat_map (bits 8) bytes) (small_bits 8 byte) (small_bits_of bytes) i

pub length-bits_of_each_byte : (bytes : List ℕ) → length (bits_of_each_byte bytes) ≡ 8 * length bytes
unfolding bits_of_each_byte
length-bits_of_each_byte [] = refl
length-bits_of_each_byte (byte ∷ bytes) =
    let next : 8 + 8 * length bytes ≡ 8 * suc (length bytes) = omega arith in
    length-append (bits 8 byte) (flat_map (bits 8) bytes)
    ∙ ap (λ (n : ℕ). n + length (flat_map (bits 8) bytes)) (length-bits 8 byte)
    ∙ ap (λ (n : ℕ). 8 + n) (length-bits_of_each_byte bytes)
    ∙ next

pub length-bytes_from_bits : (n : ℕ) (bs : List ℕ) → length (bytes_from_bits n bs) ≡ n
unfolding bytes_from_bits
length-bytes_from_bits zero bs = refl
length-bytes_from_bits (suc n) bs = ap (λ (k : ℕ). suc k) (length-bytes_from_bits n (drop 8 bs))

-- ---- the number that bits write

number_small : (bs : List ℕ) → ((i : ℕ) → get_or bs i 0 < 2) → number_from_bits bs < 2 ^ length bs
unfolding number_from_bits
number_small [] small = omega arith
number_small (bit ∷ bs) small =
    let next : suc (length bs) ≡ length bs + 1 = omega arith in
    let rest : number_from_bits bs < 2 ^ length bs = number_small bs (λ i. small (suc i)) in
    let first : bit < 2 = small 0 in
    let top : bit * 2 ^ length bs ≤ 2 ^ length bs = at_most bit (2 ^ length bs) first in
    subst (λ (p : ℕ). bit * 2 ^ length bs + number_from_bits bs < p) (sym (ap (λ (n : ℕ). 2 ^ n) next ∙ pow_more 2 (length bs))) (omega (arith, rest, top))
  where
    at_most : (b p : ℕ) → b < 2 → b * p ≤ p
    at_most zero p small = omega arith
    at_most (suc zero) p small = omega arith
    at_most (suc (suc b)) p small = absurd (omega arith)

bits-number_from_bits : (bs : List ℕ) → ((i : ℕ) → get_or bs i 0 < 2) → bits (length bs) (number_from_bits bs) ≡ bs
unfolding bits number_from_bits
bits-number_from_bits [] small = refl
bits-number_from_bits (bit ∷ bs) small =
    let low : number_from_bits bs < 2 ^ length bs = number_small bs (λ i. small (suc i)) in
    let first : bit < 2 = small 0 in
    let top : bit_at (bit * 2 ^ length bs + number_from_bits bs) (length bs) ≡ bit =
    ap (λ (q : ℕ). q % 2) (div-mul-add bit (2 ^ length bs) (number_from_bits bs) low) ∙ mod-eq_of_lt first in
    ap (λ (b : ℕ). b ∷ bits (length bs) (bit * 2 ^ length bs + number_from_bits bs)) top
    ∙ ap (λ (l : List ℕ). bit ∷ l) (bits_low (length bs) bit (number_from_bits bs) (length bs) (omega arith) ∙ bits-number_from_bits bs (λ i. small (suc i)))

-- ---- bytes to bits and back

pub small_bytes_of : (n : ℕ) (bs : List ℕ) → length bs ≡ 8 * n → ((i : ℕ) → get_or bs i 0 < 2) → (i : ℕ) → get_or (bytes_from_bits n bs) i 0 < 256
unfolding bytes_from_bits
small_bytes_of zero bs long small i = omega arith
small_bytes_of (suc n) bs long small zero =
    let taken : length (take 8 bs) ≡ 8 = length-take-le 8 bs (omega arith) in
    subst (λ (k : ℕ). number_from_bits (take 8 bs) < 2 ^ k) taken (number_small (take 8 bs) (small_take 8 bs small))
small_bytes_of (suc n) bs long small (suc i) =
    small_bytes_of n (drop 8 bs) (length-drop 8 bs ∙ (omega arith)) (small_drop 8 bs small) i

pub bytes_from_bits-bits_of_each_byte : (bytes : List ℕ) → ((i : ℕ) → get_or bytes i 0 < 256) → bytes_from_bits (length bytes) (bits_of_each_byte bytes) ≡ bytes
unfolding bytes_from_bits bits_of_each_byte
bytes_from_bits-bits_of_each_byte [] small = refl
bytes_from_bits-bits_of_each_byte (byte ∷ bytes) small =
    let rest : List ℕ = flat_map (bits 8) bytes in
    let first : byte < 256 = small 0 in
    ap (λ (l : List ℕ). number_from_bits l ∷ bytes_from_bits (length bytes) (drop 8 (bits 8 byte ++ rest))) (take_at (bits 8 byte) rest 8 (length-bits 8 byte))
    ∙ ap (λ (l : List ℕ). number_from_bits (bits 8 byte) ∷ bytes_from_bits (length bytes) l) (drop_at (bits 8 byte) rest 8 (length-bits 8 byte))
    ∙ ap (λ (b : ℕ). b ∷ bytes_from_bits (length bytes) rest) (number_from_bits-bits 8 byte ∙ mod-eq_of_lt first)
    ∙ ap (λ (l : List ℕ). byte ∷ l) (bytes_from_bits-bits_of_each_byte bytes (λ i. small (suc i)))

pub bits_of_each_byte-bytes_from_bits : (n : ℕ) (bs : List ℕ) → length bs ≡ 8 * n → ((i : ℕ) → get_or bs i 0 < 2) → bits_of_each_byte (bytes_from_bits n bs) ≡ bs
unfolding bytes_from_bits bits_of_each_byte
bits_of_each_byte-bytes_from_bits zero [] long small = refl
bits_of_each_byte-bytes_from_bits zero (b ∷ bs) long small = absurd (omega arith)
bits_of_each_byte-bytes_from_bits (suc n) bs long small =
    let taken : length (take 8 bs) ≡ 8 = length-take-le 8 bs (omega arith) in
    let first : bits 8 (number_from_bits (take 8 bs)) ≡ take 8 bs =
    ap (λ (k : ℕ). bits k (number_from_bits (take 8 bs))) (sym taken) ∙ bits-number_from_bits (take 8 bs) (small_take 8 bs small) in
    ap (λ (l : List ℕ). l ++ flat_map (bits 8) (bytes_from_bits n (drop 8 bs))) first
    ∙ ap (λ (l : List ℕ). take 8 bs ++ l) (bits_of_each_byte-bytes_from_bits n (drop 8 bs) (length-drop 8 bs ∙ (omega arith)) (small_drop 8 bs small))
    ∙ take-append-drop 8 bs
