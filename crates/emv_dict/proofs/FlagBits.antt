-- A bit of one of a number's bytes is the number's bit at that place.
use Rattle.std.proofs.Common.{◌≡◌, ◌↔◌, ℕ, zero, suc, ◌+◌, ◌-◌, ◌*◌, ◌/◌, ◌%◌, ◌^◌, ◌<◌, refl, sym, ◌∙◌, ap, arith, IsBitSet, pow-add}
use Rattle.std.specs.Int.{bit_at, w16, to_be_bytes}
use Rattle.std.proofs.Math.Nat.{div-div-eq-div-mul, div-one}
use Rattle.std.proofs.lemmas.Nat.{pow_pos}
use Rattle.std.proofs.lemmas.Nat.Bits.{and_pow}
use Rattle.emv_dict.specs.Flags.{IsWithin, StandsIn, tvr_place, tsi_place, tvr_bytes}

-- the eight low bits
low_bit : (q j : ℕ) → j < 8 → bit_at (q % 256) j ≡ bit_at q j
low_bit q zero within = omega arith
low_bit q (suc zero) within = omega arith
low_bit q (suc (suc zero)) within = omega arith
low_bit q (suc (suc (suc zero))) within = omega arith
low_bit q (suc (suc (suc (suc zero)))) within = omega arith
low_bit q (suc (suc (suc (suc (suc zero))))) within = omega arith
low_bit q (suc (suc (suc (suc (suc (suc zero)))))) within = omega arith
low_bit q (suc (suc (suc (suc (suc (suc (suc zero))))))) within = omega arith
low_bit q (suc (suc (suc (suc (suc (suc (suc (suc j)))))))) within = absurd (omega arith)

none : (b p : ℕ) → 0 < p → b * p ≡ 0 → b ≡ 0
none zero p above product = omega arith
none (suc b) p above product = absurd (omega arith)

-- the same bit of two numbers is set in both or in none
along : (a n i j : ℕ) → bit_at a i ≡ bit_at n j → IsBitSet a i → IsBitSet n j
along a n i j same set zeroed =
    let there : bit_at n j ≡ 0 = none (bit_at n j) (2 ^ j) (pow_pos j) (sym (and_pow n j) ∙ zeroed) in
    let here : bit_at a i ≡ 0 = same ∙ there in
    set (and_pow a i ∙ ap (λ b. b * 2 ^ i) here ∙ (omega arith))

same_bit : (a n i j : ℕ) → bit_at a i ≡ bit_at n j → IsBitSet a i ↔ IsBitSet n j
same_bit a n i j same = (along a n i j same, along n a j i (sym same))

-- a bit of the byte that stands m bits up
bit_of_byte : (t q m j : ℕ) → q ≡ t / 2 ^ m → j < 8 → bit_at (q % 256) j ≡ bit_at t (m + j)
bit_of_byte t q m j is within =
    low_bit q j within
    ∙ ap (λ n. n / 2 ^ j % 2) is
    ∙ ap (λ n. n % 2) (div-div-eq-div-mul t (2 ^ m) (2 ^ j))
    ∙ ap (λ n. t / n % 2) (sym (pow-add 2 m j))

-- a bit of a byte of the terminal verification results
pub tvr_stands :
    (t byte bit : ℕ) → IsWithin 1 5 byte → IsWithin 1 8 bit
    → StandsIn (tvr_bytes t) byte bit ↔ IsBitSet t (tvr_place byte bit)
tvr_stands t zero bit within small = absurd (omega arith)
tvr_stands t (suc zero) bit within small = same_bit (t / 256 ^ 4 % 256) t (bit - 1) (32 + (bit - 1)) (bit_of_byte t _ 32 (bit - 1) refl (omega arith))
tvr_stands t (suc (suc zero)) bit within small = same_bit (t / 256 ^ 3 % 256) t (bit - 1) (24 + (bit - 1)) (bit_of_byte t _ 24 (bit - 1) refl (omega arith))
tvr_stands t (suc (suc (suc zero))) bit within small = same_bit (t / 256 ^ 2 % 256) t (bit - 1) (16 + (bit - 1)) (bit_of_byte t _ 16 (bit - 1) refl (omega arith))
tvr_stands t (suc (suc (suc (suc zero)))) bit within small = same_bit (t / 256 ^ 1 % 256) t (bit - 1) (8 + (bit - 1)) (bit_of_byte t _ 8 (bit - 1) refl (omega arith))
tvr_stands t (suc (suc (suc (suc (suc zero))))) bit within small =
    same_bit (t % 256) t (bit - 1) (0 + (bit - 1)) (bit_of_byte t t 0 (bit - 1) (sym (div-one t)) (omega arith))
tvr_stands t (suc (suc (suc (suc (suc (suc byte)))))) bit within small = absurd (omega arith)

-- a bit of a byte of the transaction status information
pub tsi_stands :
    (t byte bit : ℕ) → IsWithin 1 2 byte → IsWithin 1 8 bit
    → StandsIn (to_be_bytes w16 t) byte bit ↔ IsBitSet t (tsi_place byte bit)
tsi_stands t zero bit within small = absurd (omega arith)
tsi_stands t (suc zero) bit within small = same_bit (t / 256 ^ 1 % 256) t (bit - 1) (8 + (bit - 1)) (bit_of_byte t _ 8 (bit - 1) refl (omega arith))
tsi_stands t (suc (suc zero)) bit within small =
    same_bit (t % 256) t (bit - 1) (0 + (bit - 1)) (bit_of_byte t t 0 (bit - 1) (sym (div-one t)) (omega arith))
tsi_stands t (suc (suc (suc byte))) bit within small = absurd (omega arith)
