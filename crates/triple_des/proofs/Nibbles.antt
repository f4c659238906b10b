-- The bits that places name, picked from four bits at a time.
use Rattle.std.proofs.Common.{◌≡◌, Bool, true, false, nat_lt, ℕ, zero, suc, ◌+◌, ◌-◌, ◌*◌, ◌/◌, ◌%◌, ◌^◌, ◌<◌, ◌≤◌, List, [], ◌∷◌, length, get_or, refl, ap, sym, ◌∙◌, arith, bit_xor}
use Rattle.std.specs.Int.{bit_at}
use Rattle.std.proofs.lemmas.Bool.{ltb-true}
use Rattle.std.proofs.lemmas.Nat.{mod-pow-add, pow_pos}
use Rattle.std.proofs.lemmas.Nat.Bits.{bit_at-zero, bit_at-lt, bit_at_xor, bit_at_above, bit_at_cat_low, bit_at_cat_high}
use Rattle.std.proofs.Math.Nat.{mod-lt}
use Rattle.triple_des.specs.declared.tables.TheConstants.{INITIAL, FINAL, FIRST_CHOICE, SECOND_CHOICE}
use Rattle.triple_des.specs.Bits.{bits, pick, xor}
use Rattle.triple_des.specs.Nibbles.{AreTables}
use Rattle.triple_des.specs.Tables.{initial_table, final_table, first_choice_table, second_choice_table}
use Rattle.triple_des.proofs.Added.{pick-xor}
use Rattle.triple_des.proofs.Below.{all_below, below_at, same, same-true}
use Rattle.triple_des.proofs.Words.{length-bits, bits_same, bits_xor, bits_mod}

-- ---- the tables

-- whether the tables are those of the places
abbrev are_tables : List ℕ → List (List ℕ) → Bool
are_tables places tables =
    all_below (λ k. all_below (λ four. same (bits (length places) (get_or (get_or tables (length tables - 1 - k) []) four 0)) (pick places (bits (4 * length tables) (four * 2 ^ (4 * k))))) 16) (length tables)

tables_are : (places : List ℕ) (tables : List (List ℕ)) → are_tables places tables ≡ true → AreTables places tables
tables_are places tables all k four below small =
    same-true (bits (length places) (get_or (get_or tables (length tables - 1 - k) []) four 0)) (pick places (bits (4 * length tables) (four * 2 ^ (4 * k))))
    (below_at (λ f. same (bits (length places) (get_or (get_or tables (length tables - 1 - k) []) f 0)) (pick places (bits (4 * length tables) (f * 2 ^ (4 * k))))) 16 four
    (below_at (λ n. all_below (λ f. same (bits (length places) (get_or (get_or tables (length tables - 1 - n) []) f 0)) (pick places (bits (4 * length tables) (f * 2 ^ (4 * n))))) 16) (length tables) k all below) small)

all_initial : are_tables initial_table INITIAL ≡ true
unfolding bits pick initial_table
all_initial = refl

pub initial_tables : AreTables initial_table INITIAL
initial_tables = tables_are initial_table INITIAL all_initial

all_final : are_tables final_table FINAL ≡ true
unfolding bits pick final_table
all_final = refl

pub final_tables : AreTables final_table FINAL
final_tables = tables_are final_table FINAL all_final

all_first_choice : are_tables first_choice_table FIRST_CHOICE ≡ true
unfolding bits pick first_choice_table
all_first_choice = refl

pub first_choice_tables : AreTables first_choice_table FIRST_CHOICE
first_choice_tables = tables_are first_choice_table FIRST_CHOICE all_first_choice

all_second_choice : are_tables second_choice_table SECOND_CHOICE ≡ true
unfolding bits pick second_choice_table
all_second_choice = refl

pub second_choice_tables : AreTables second_choice_table SECOND_CHOICE
second_choice_tables = tables_are second_choice_table SECOND_CHOICE all_second_choice

-- ---- the loop over them

with_zero : (b : ℕ) → b < 2 → b ≡ (b + 0) % 2
with_zero b small = omega arith

zero_with : (b : ℕ) → b < 2 → b ≡ (0 + b) % 2
zero_with b small = omega arith

-- a bit of a number whose high bits are of one number and whose low bits of another
one_of_both : (hi lo k i : ℕ) → lo < 2 ^ k → bit_at (hi * 2 ^ k + lo) i ≡ bit_at (bit_xor lo (hi * 2 ^ k)) i
one_of_both hi lo k i small =
    let added : hi * 2 ^ k + 0 ≡ hi * 2 ^ k = omega arith in
    elim (nat_lt i k) as (λ b. nat_lt i k ≡ b → bit_at (hi * 2 ^ k + lo) i ≡ bit_at (bit_xor lo (hi * 2 ^ k)) i) [
      | true ↦ λ test.
          let low : i < k = ltb-true i k test in
          let none : bit_at (hi * 2 ^ k) i ≡ 0 =
          ap (λ (w : ℕ). bit_at w i) (sym added) ∙ bit_at_cat_low hi k 0 i low ∙ bit_at-zero i in
          bit_at_cat_low hi k lo i low ∙ with_zero (bit_at lo i) (bit_at-lt lo i)
          ∙ ap (λ (b : ℕ). (bit_at lo i + b) % 2) (sym none) ∙ sym (bit_at_xor lo (hi * 2 ^ k) i)
      | false ↦ λ test.
          let high : k ≤ i = grind (arith, test) in
          let positive : 0 < 2 ^ k = pow_pos k in
          let none : bit_at lo i ≡ 0 = bit_at_above lo k i small high in
          let above : bit_at (hi * 2 ^ k) i ≡ bit_at hi (i - k) =
          ap (λ (w : ℕ). bit_at w i) (sym added) ∙ bit_at_cat_high hi k 0 i positive high in
          bit_at_cat_high hi k lo i small high ∙ sym above ∙ zero_with (bit_at (hi * 2 ^ k) i) (bit_at-lt (hi * 2 ^ k) i)
          ∙ ap (λ (b : ℕ). (b + bit_at (hi * 2 ^ k) i) % 2) (sym none) ∙ sym (bit_at_xor lo (hi * 2 ^ k) i)
    ] refl

bits_of_both : (n hi lo k : ℕ) → lo < 2 ^ k → bits n (hi * 2 ^ k + lo) ≡ xor (bits n lo) (bits n (hi * 2 ^ k))
bits_of_both n hi lo k small =
    bits_same n (hi * 2 ^ k + lo) (bit_xor lo (hi * 2 ^ k)) (λ i below. one_of_both hi lo k i small)
    ∙ bits_xor n lo (hi * 2 ^ k)

zero_at : (n i : ℕ) → get_or (bits n 0) i 0 ≡ 0
unfolding bits
zero_at zero i = refl
zero_at (suc n) zero = bit_at-zero n
zero_at (suc n) (suc i) = zero_at n i

-- from zeros only zeros are picked
zeros_picked : (places : List ℕ) (n : ℕ) → bits (length places) 0 ≡ pick places (bits n 0)
unfolding bits pick
zeros_picked [] n = refl
zeros_picked (place ∷ places) n =
    ap (λ (b : ℕ). b ∷ bits (length places) 0) (bit_at-zero (length places) ∙ sym (zero_at n (place - 1)))
    ∙ ap (λ (l : List ℕ). get_or (bits n 0) (place - 1) 0 ∷ l) (zeros_picked places n)

pub no_nibble : (places : List ℕ) (n word : ℕ) → bits (length places) 0 ≡ pick places (bits n (word % 2 ^ (4 * 0)))
no_nibble places n word =
    let none : 0 ≡ word % 2 ^ (4 * 0) = omega arith in
    zeros_picked places n ∙ ap (λ (w : ℕ). pick places (bits n w)) none

-- four bits more
pub nibble_more : (places : List ℕ) (tables : List (List ℕ)) (word out i : ℕ) → AreTables places tables → i < length tables → bits (length places) out ≡ pick places (bits (4 * length tables) (word % 2 ^ (4 * i))) → bits (length places) (bit_xor out (get_or (get_or tables (length tables - 1 - i) []) (word / 2 ^ (4 * i) % 16) 0)) ≡ pick places (bits (4 * length tables) (word % 2 ^ (4 * (i + 1))))
nibble_more places tables word out i are below before =
    let n : ℕ = 4 * length tables in
    let low : ℕ = word % 2 ^ (4 * i) in
    let four : ℕ = word / 2 ^ (4 * i) % 16 in
    let high : ℕ = four * 2 ^ (4 * i) in
    let entry : ℕ = get_or (get_or tables (length tables - 1 - i) []) four 0 in
    let small : low < 2 ^ (4 * i) = mod-lt word (pow_pos (4 * i)) in
    let four_small : four < 16 = omega arith in
    let next : 4 + 4 * i ≡ 4 * (i + 1) = omega arith in
    let sizes : length (bits n low) ≡ length (bits n high) = length-bits n low ∙ sym (length-bits n high) in
    let both : xor (bits n low) (bits n high) ≡ bits n (word % 2 ^ (4 * (i + 1))) =
    sym (bits_of_both n four low (4 * i) small) ∙ ap (λ (w : ℕ). bits n w) (sym (mod-pow-add word 4 (4 * i)) ∙ ap (λ (k : ℕ). word % 2 ^ k) next) in
    bits_xor (length places) out entry
    ∙ ap (λ (l : List ℕ). xor l (bits (length places) entry)) before
    ∙ ap (λ (l : List ℕ). xor (pick places (bits n low)) l) (are i four below four_small)
    ∙ sym (pick-xor places (bits n low) (bits n high) sizes)
    ∙ ap (λ (l : List ℕ). pick places l) both

pub all_nibbles : (places : List ℕ) (word out i n : ℕ) → i ≡ n → bits (length places) out ≡ pick places (bits (4 * n) (word % 2 ^ (4 * i))) → bits (length places) out ≡ pick places (bits (4 * n) word)
all_nibbles places word out i n all before =
    before ∙ ap (λ (k : ℕ). pick places (bits (4 * n) (word % 2 ^ (4 * k)))) all
    ∙ ap (λ (l : List ℕ). pick places l) (bits_mod (4 * n) word (4 * n) (omega arith))
