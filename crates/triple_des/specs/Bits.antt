-- Bits are the numbers 0 and 1. A list of bits stands with the highest first, so that its first bit is
-- bit 1 of FIPS 46-3.
use Rattle.std.specs.Prelude.{ℕ, zero, suc, List, [], ◌∷◌, ◌+◌, ◌-◌, ◌*◌, ◌%◌, ◌^◌, length, map, take, drop, slice_index, bit_xor}
use Rattle.std.specs.Int.{bit_at}
use Rattle.std.specs.List.{flat_map}

-- the lowest n bits of a number
unfoldable pub bits : ℕ → ℕ → List ℕ
bits zero x = []
bits (suc n) x = bit_at x n ∷ bits n x

-- the number that bits write
unfoldable pub number_from_bits : List ℕ → ℕ
number_from_bits [] = 0
number_from_bits (bit ∷ rest) = bit * 2 ^ length rest + number_from_bits rest

-- the bits at the places that a table names, counted from 1 at the left
unfoldable pub pick : List ℕ → List ℕ → List ℕ
pick table bs = map (λ place. slice_index bs (place - 1)) table

-- bit by bit addition modulo 2
unfoldable pub xor : List ℕ → List ℕ → List ℕ
xor (x ∷ xs) (y ∷ ys) = (x + y) % 2 ∷ xor xs ys
xor (x ∷ xs) [] = []
xor [] ys = []

-- the bits of bytes, each byte's highest first
unfoldable pub bits_of_each_byte : List ℕ → List ℕ
bits_of_each_byte bytes = flat_map (bits 8) bytes

-- n bytes, written by the first 8 n of these bits
unfoldable pub bytes_from_bits : ℕ → List ℕ → List ℕ
bytes_from_bits zero bs = []
bytes_from_bits (suc n) bs = number_from_bits (take 8 bs) ∷ bytes_from_bits n (drop 8 bs)

-- two lists of bytes, byte by byte
unfoldable pub xor_bytes : List ℕ → List ℕ → List ℕ
xor_bytes (x ∷ xs) (y ∷ ys) = bit_xor x y ∷ xor_bytes xs ys
xor_bytes (x ∷ xs) [] = []
xor_bytes [] ys = []
