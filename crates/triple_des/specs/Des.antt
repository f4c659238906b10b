-- The data encryption standard, FIPS 46-3, on lists of bits. A key and a block are lists of eight bytes.
use Rattle.std.specs.Prelude.{ℕ, List, [], ◌∷◌, ◌++◌, ◌-◌, ◌*◌, take, drop, replicate, reverse, slice_index, slice_index_or}
use Rattle.std.specs.List.{fold}
use Rattle.triple_des.specs.Bits.{bits, number_from_bits, pick, xor, bits_of_each_byte, bytes_from_bits}
use Rattle.triple_des.specs.Tables.{initial_table, final_table, expansion_table, permutation_table}
use Rattle.triple_des.specs.Tables.{first_choice_table, second_choice_table, shift_table, box_tables}

-- the row of a box is written by bits 1 and 6 of the six, the column by bits 2 to 5
abbrev pub row_of : List ℕ → ℕ
row_of six = number_from_bits (slice_index six 0 ∷ slice_index six 5 ∷ [])

abbrev pub column_of : List ℕ → ℕ
column_of six = number_from_bits (take 4 (drop 1 six))

-- the four bits that a box gives for six
unfoldable pub box_bits : List (List ℕ) → List ℕ → List ℕ
box_bits box six = bits 4 (slice_index (slice_index_or box (row_of six) []) (column_of six))

-- each box in turn takes six bits and gives four
unfoldable pub substituted : List (List (List ℕ)) → List ℕ → List ℕ
substituted [] bs = []
substituted (box ∷ boxes) bs = box_bits box (take 6 bs) ++ substituted boxes (drop 6 bs)

-- four bits where the box of this number, counted from 0, gives them, and 0 at the other places of 32
unfoldable pub placed : ℕ → List ℕ → List ℕ
placed number four = replicate (4 * number) 0 ++ (four ++ replicate (28 - 4 * number) 0)

-- f(R, K): P of the boxes of E(R) xor K
unfoldable pub cipher_function : List ℕ → List ℕ → List ℕ
cipher_function right key =
    pick permutation_table (substituted box_tables (xor (pick expansion_table right) key))

-- one round: the halves L, R become R, L xor f(R, K)
unfoldable pub round : List ℕ × List ℕ → List ℕ → List ℕ × List ℕ
round (left, right) key = (right, xor left (cipher_function right key))

-- a round for each key
unfoldable pub rounds : List (List ℕ) → List ℕ × List ℕ → List ℕ × List ℕ
rounds keys halves = fold round halves keys

-- the halves of sixty-four bits, and the sixty-four bits of two halves that are swapped
abbrev pub halves_of : List ℕ → List ℕ × List ℕ
halves_of bs = (take 32 bs, drop 32 bs)

abbrev pub swapped : List ℕ × List ℕ → List ℕ
swapped (left, right) = right ++ left

-- the initial permutation, the rounds, the swap and the final permutation
unfoldable pub cipher : List (List ℕ) → List ℕ → List ℕ
cipher keys bs = pick final_table (swapped (rounds keys (halves_of (pick initial_table bs))))

-- a block enciphered under round keys
unfoldable pub enciphered : List (List ℕ) → List ℕ → List ℕ
enciphered keys block = bytes_from_bits 8 (cipher keys (bits_of_each_byte block))

-- a block deciphered under them: they are taken in reverse
unfoldable pub deciphered : List (List ℕ) → List ℕ → List ℕ
deciphered keys block = enciphered (reverse keys) block

-- C or D, turned to the left
abbrev pub rotated_left : ℕ → List ℕ → List ℕ
rotated_left places half = drop places half ++ take places half

-- for each round C and D are turned, and PC-2 takes the key from both
unfoldable pub schedule : List ℕ → List ℕ → List ℕ → List (List ℕ)
schedule [] c d = []
schedule (places ∷ rest) c d =
    pick second_choice_table (rotated_left places c ++ rotated_left places d)
    ∷ schedule rest (rotated_left places c) (rotated_left places d)

-- the sixteen round keys of a key of eight bytes: PC-1 leaves its parity bits out
unfoldable pub round_keys : List ℕ → List (List ℕ)
round_keys key =
    let chosen = pick first_choice_table (bits_of_each_byte key) in
    schedule shift_table (take 28 chosen) (drop 28 chosen)

-- a block enciphered under a key
abbrev pub des : List ℕ → List ℕ → List ℕ
des key block = enciphered (round_keys key) block
