-- A word, its bytes and its bits.
use Rattle.std.proofs.Common.{◌≡◌, ℕ, zero, suc, ◌+◌, ◌*◌, ◌/◌, ◌%◌, ◌^◌, ◌<◌, List, [], ◌∷◌, ◌++◌, length, get_or, take, drop, refl, ap, sym, ◌∙◌, arith, w64}
use Rattle.std.specs.Int.{bit_at, byte_at, bytes_high_first, from_be_bytes}
use Rattle.std.specs.List.{flat_map}
use Rattle.std.proofs.lemmas.Grind.{pow_more}
use Rattle.std.proofs.lemmas.List.{take_at, drop_at}
use Rattle.std.proofs.lemmas.Nat.{pow-add, be_bytes_8, mod-pow-add}
use Rattle.std.proofs.Math.Nat.{div-one}
use Rattle.triple_des.specs.Bits.{bits, number_from_bits, bits_of_each_byte, bytes_from_bits}
use Rattle.triple_des.proofs.Words.{length-bits, bits_split, bits_mod}

-- the number that a word's low bits write
pub number_from_bits-bits : (n x : ℕ) → number_from_bits (bits n x) ≡ x % 2 ^ n
unfolding bits number_from_bits
number_from_bits-bits zero x = let e : 0 ≡ x % 1 = omega arith in e
number_from_bits-bits (suc n) x =
    let next : suc n ≡ 1 + n = omega arith in
    ap (λ (k : ℕ). bit_at x n * 2 ^ k + number_from_bits (bits n x)) (length-bits n x)
    ∙ ap (λ (low : ℕ). bit_at x n * 2 ^ n + low) (number_from_bits-bits n x)
    ∙ sym (mod-pow-add x 1 n)
    ∙ ap (λ (k : ℕ). x % 2 ^ k) (sym next)

power_256 : (k : ℕ) → 256 ^ k ≡ 2 ^ (8 * k)
power_256 zero = refl
power_256 (suc k) =
    let next : suc k ≡ k + 1 = omega arith in
    let eight : 8 * k + 8 ≡ 8 * suc k = omega arith in
    ap (λ (n : ℕ). 256 ^ n) next ∙ pow_more 256 k ∙ ap (λ (p : ℕ). p * 256) (power_256 k)
    ∙ sym (pow-add 2 (8 * k) 8) ∙ ap (λ (n : ℕ). 2 ^ n) eight

-- a byte of a word, counted from the lowest
byte_at_is : (k x : ℕ) → byte_at k x ≡ x / 2 ^ (8 * k) % 2 ^ 8
byte_at_is zero x = ap (λ (y : ℕ). y % 256) (sym (div-one x))
byte_at_is (suc k) x = ap (λ (p : ℕ). x / p % 256) (power_256 (suc k))

eight_more : (k : ℕ) → 8 * suc k ≡ 8 + 8 * k
eight_more k = omega arith

no_bits : (x : ℕ) → [] ≡ bits 0 x
unfolding bits
no_bits x = refl

-- the bits of a word's bytes
pub bits_of_bytes : (k x : ℕ) → flat_map (bits 8) (bytes_high_first k x) ≡ bits (8 * k) x
bits_of_bytes zero x = no_bits x
bits_of_bytes (suc k) x =
    ap (λ (b : ℕ). bits 8 b ++ flat_map (bits 8) (bytes_high_first k x)) (byte_at_is k x)
    ∙ ap (λ (l : List ℕ). l ++ flat_map (bits 8) (bytes_high_first k x)) (bits_mod 8 (x / 2 ^ (8 * k)) 8 (omega arith))
    ∙ ap (λ (l : List ℕ). bits 8 (x / 2 ^ (8 * k)) ++ l) (bits_of_bytes k x)
    ∙ sym (bits_split 8 (8 * k) x)
    ∙ ap (λ (n : ℕ). bits n x) (sym (eight_more k))

-- the bytes that a word's bits write
pub bytes_of_bits : (k x : ℕ) → bytes_from_bits k (bits (8 * k) x) ≡ bytes_high_first k x
unfolding bytes_from_bits
bytes_of_bits zero x = refl
bytes_of_bits (suc k) x =
    let all : bits (8 * suc k) x ≡ bits 8 (x / 2 ^ (8 * k)) ++ bits (8 * k) x = ap (λ (n : ℕ). bits n x) (eight_more k) ∙ bits_split 8 (8 * k) x in
    ap (λ (l : List ℕ). number_from_bits (take 8 l) ∷ bytes_from_bits k (drop 8 l)) all
    ∙ ap (λ (l : List ℕ). number_from_bits l ∷ bytes_from_bits k (drop 8 (bits 8 (x / 2 ^ (8 * k)) ++ bits (8 * k) x))) (take_at (bits 8 (x / 2 ^ (8 * k))) (bits (8 * k) x) 8 (length-bits 8 (x / 2 ^ (8 * k))))
    ∙ ap (λ (l : List ℕ). number_from_bits (bits 8 (x / 2 ^ (8 * k))) ∷ bytes_from_bits k l) (drop_at (bits 8 (x / 2 ^ (8 * k))) (bits (8 * k) x) 8 (length-bits 8 (x / 2 ^ (8 * k))))
    ∙ ap (λ (b : ℕ). b ∷ bytes_from_bits k (bits (8 * k) x)) (number_from_bits-bits 8 (x / 2 ^ (8 * k)) ∙ sym (byte_at_is k x))
    ∙ ap (λ (l : List ℕ). byte_at k x ∷ l) (bytes_of_bits k x)

-- the word that eight bytes write has their bits
pub bits_from_bytes : (bytes : List ℕ) (word : ℕ) → length bytes ≡ 8 → ((i : ℕ) → get_or bytes i 0 < 256) → word ≡ from_be_bytes w64 bytes → bits 64 word ≡ bits_of_each_byte bytes
unfolding bits_of_each_byte
bits_from_bytes bytes word eight small is =
    sym (bits_of_bytes 8 word) ∙ ap (λ (l : List ℕ). flat_map (bits 8) l) (be_bytes_8 bytes word eight small is)
