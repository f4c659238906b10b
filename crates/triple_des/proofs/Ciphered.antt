-- What a cipher gives is a block of bytes again, and the two-key decipherment undoes the encipherment.
use Rattle.std.proofs.Common.{◌≡◌, ℕ, zero, suc, ◌-◌, ◌<◌, List, [], ◌∷◌, length, take, drop, get_or, reverse, refl, ◌∙◌, ap, arith}
use Rattle.triple_des.specs.Bits.{pick, xor, bits_of_each_byte}
use Rattle.triple_des.specs.Tables.{initial_table, final_table}
use Rattle.triple_des.specs.Des.{cipher_function, round, rounds, halves_of, swapped, cipher, enciphered, deciphered}
use Rattle.triple_des.specs.TripleDes.{left_keys, right_keys, tdes, untdes}
use Rattle.triple_des.proofs.ByteLists.{small_append, small_bits_of, length-bytes_from_bits, small_bytes_of}
use Rattle.triple_des.proofs.Undone.{IsBlock, deciphered_undoes, enciphered_undoes}

-- each number is a bit
abbrev pub AreBits : List ℕ → Type 0
AreBits bs = (i : ℕ) → get_or bs i 0 < 2

picked : (table bs : List ℕ) → AreBits bs → AreBits (pick table bs)
unfolding pick
picked [] bs bits i = omega arith
picked (place ∷ table) bs bits zero = bits (place - 1)
picked (place ∷ table) bs bits (suc i) = picked table bs bits i

mixed : (xs ys : List ℕ) → AreBits (xor xs ys)
unfolding xor
mixed [] ys i = omega arith
mixed (x ∷ xs) [] i = omega arith
mixed (x ∷ xs) (y ∷ ys) zero = omega arith
mixed (x ∷ xs) (y ∷ ys) (suc i) = mixed xs ys i

front : (n : ℕ) (xs : List ℕ) → AreBits xs → AreBits (take n xs)
front zero xs bits i = omega arith
front (suc n) [] bits i = omega arith
front (suc n) (x ∷ xs) bits zero = bits 0
front (suc n) (x ∷ xs) bits (suc i) = front n xs (λ k. bits (suc k)) i

behind : (n : ℕ) (xs : List ℕ) → AreBits xs → AreBits (drop n xs)
behind zero xs bits i = bits i
behind (suc n) [] bits i = omega arith
behind (suc n) (x ∷ xs) bits i = behind n xs (λ k. bits (suc k)) i

rounds_bits : (keys : List (List ℕ)) (left right : List ℕ) → AreBits left → AreBits right
    → AreBits (rounds keys (left, right)).0 × AreBits (rounds keys (left, right)).1
unfolding rounds round
rounds_bits [] left right l r = (l, r)
rounds_bits (key ∷ keys) left right l r = rounds_bits keys right (xor left (cipher_function right key)) r (mixed left (cipher_function right key))

cipher_bits : (keys : List (List ℕ)) (bs : List ℕ) → AreBits bs → AreBits (cipher keys bs)
unfolding cipher
cipher_bits keys bs bits =
    let start : List ℕ = pick initial_table bs in
    let start_bits : AreBits start = picked initial_table bs bits in
    let ends = rounds_bits keys (take 32 start) (drop 32 start) (front 32 start start_bits) (behind 32 start start_bits) in
    let last : List ℕ × List ℕ = rounds keys (halves_of start) in
    picked final_table (swapped last) (small_append last.1 last.0 ends.1 ends.0)

cipher_size : (keys : List (List ℕ)) (bs : List ℕ) → length (cipher keys bs) ≡ 64
unfolding cipher pick final_table
cipher_size keys bs = refl

enciphered_block : (keys : List (List ℕ)) (block : List ℕ) → IsBlock (enciphered keys block)
unfolding enciphered
enciphered_block keys block = record {
  long = length-bytes_from_bits 8 (cipher keys (bits_of_each_byte block));
  small = small_bytes_of 8 (cipher keys (bits_of_each_byte block)) (cipher_size keys (bits_of_each_byte block)) (cipher_bits keys (bits_of_each_byte block) (small_bits_of block));
}

deciphered_block : (keys : List (List ℕ)) (block : List ℕ) → IsBlock (deciphered keys block)
unfolding deciphered
deciphered_block keys block = enciphered_block (reverse keys) block

-- deciphering with both keys undoes enciphering
pub untdes-tdes : (key block : List ℕ) → IsBlock block → untdes key (tdes key block) ≡ block
unfolding tdes untdes
untdes-tdes key block is =
    let first : List ℕ = enciphered (left_keys key) block in
    let second : List ℕ = deciphered (right_keys key) first in
    ap (λ (b : List ℕ). deciphered (left_keys key) (enciphered (right_keys key) b))
    (deciphered_undoes (left_keys key) second (deciphered_block (right_keys key) first))
    ∙ ap (λ (b : List ℕ). deciphered (left_keys key) b) (enciphered_undoes (right_keys key) first (enciphered_block (left_keys key) block))
    ∙ deciphered_undoes (left_keys key) block is
