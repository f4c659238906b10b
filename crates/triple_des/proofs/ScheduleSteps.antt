-- The key schedule on words.
use Rattle.std.proofs.Common.{◌≡◌, ℕ, ◌+◌, ◌*◌, ◌/◌, ◌%◌, ◌^◌, ◌<◌, ◌≤◌, List, [], ◌∷◌, ◌++◌, length, get_or, set, take, drop, map, refl, ap, sym, ◌∙◌, arith, append_assoc, true, ◌&&◌, nat_le}
use Rattle.std.proofs.lemmas.Bool.{and_parts, leb-true}
use Rattle.std.proofs.lemmas.List.{take_more_set, map_push, at_drop_more, take_all, append-nil}
use Rattle.triple_des.specs.declared.tables.TheConstants.{SHIFTS}
use Rattle.triple_des.specs.Bits.{bits, pick, bits_of_each_byte}
use Rattle.triple_des.specs.Tables.{shift_table, first_choice_table, second_choice_table}
use Rattle.triple_des.specs.Des.{rotated_left, schedule, round_keys}
use Rattle.triple_des.proofs.Below.{all_below, below_at}
use Rattle.triple_des.proofs.Words.{bits_cat, bits_mod}
use Rattle.triple_des.proofs.Halves.{take-bits, drop-bits}

one_or_two : all_below (λ i. nat_le 1 (get_or SHIFTS i 0) && nat_le (get_or SHIFTS i 0) 2) 16 ≡ true
one_or_two = refl

pub shift_bounds : (i : ℕ) → i < 16 → (1 ≤ get_or SHIFTS i 0) × (get_or SHIFTS i 0 ≤ 2)
shift_bounds i below =
    let parts = and_parts (nat_le 1 (get_or SHIFTS i 0)) (nat_le (get_or SHIFTS i 0) 2)
    (below_at (λ k. nat_le 1 (get_or SHIFTS k 0) && nat_le (get_or SHIFTS k 0) 2) 16 i one_or_two below) in
    (leb-true 1 (get_or SHIFTS i 0) parts.0, leb-true (get_or SHIFTS i 0) 2 parts.1)

-- the keys so far and those that the halves still give are all the keys
pub record IsScheduled (keys : List ℕ) (i left right : ℕ) (all : List (List ℕ)) : Type 0 where
  pub sized : length keys ≡ 16
  pub left_fits : left < 2 ^ 28
  pub right_fits : right < 2 ^ 28
  pub so_far : map (bits 48) (take i keys) ++ schedule (drop i shift_table) (bits 28 left) (bits 28 right) ≡ all

-- one round key more
pub schedule_step : (keys : List ℕ) (i left right next_left next_right key : ℕ) → i < 16 → length keys ≡ 16 → bits 28 next_left ≡ rotated_left (get_or SHIFTS i 0) (bits 28 left) → bits 28 next_right ≡ rotated_left (get_or SHIFTS i 0) (bits 28 right) → next_right < 2 ^ 28 → bits 48 key ≡ pick second_choice_table (bits 56 (next_left * 2 ^ 28 + next_right)) → map (bits 48) (take (i + 1) (set keys i key)) ++ schedule (drop (i + 1) shift_table) (bits 28 next_left) (bits 28 next_right) ≡ map (bits 48) (take i keys) ++ schedule (drop i shift_table) (bits 28 left) (bits 28 right)
unfolding schedule shift_table
schedule_step keys i left right next_left next_right key below long left_is right_is small key_is =
    let places : ℕ = get_or shift_table i 0 in
    let front : List (List ℕ) = map (bits 48) (take i keys) in
    let rest : List (List ℕ) = schedule (drop (i + 1) shift_table) (bits 28 next_left) (bits 28 next_right) in
    let joined : bits 48 key ≡ pick second_choice_table (bits 28 next_left ++ bits 28 next_right) =
    key_is ∙ ap (λ (l : List ℕ). pick second_choice_table l) (bits_cat 28 28 next_left next_right small) in
    let here : bits 48 key ∷ rest ≡ schedule (drop i shift_table) (bits 28 left) (bits 28 right) =
    ap (λ (k : List ℕ). k ∷ rest) joined
    ∙ ap (λ (l : List ℕ). pick second_choice_table (l ++ bits 28 next_right) ∷ schedule (drop (i + 1) shift_table) l (bits 28 next_right)) left_is
    ∙ ap (λ (l : List ℕ). pick second_choice_table (rotated_left places (bits 28 left) ++ l) ∷ schedule (drop (i + 1) shift_table) (rotated_left places (bits 28 left)) l) right_is
    ∙ sym (at_drop_more (λ (ps : List ℕ). schedule ps (bits 28 left) (bits 28 right)) shift_table i 0 below) in
    ap (λ (ks : List ℕ). map (bits 48) ks ++ rest) (take_more_set keys i key (omega (arith, long, below)))
    ∙ ap (λ (ks : List (List ℕ)). ks ++ rest) (map_push (bits 48) (take i keys) key)
    ∙ append_assoc front (bits 48 key ∷ []) rest
    ∙ ap (λ (ks : List (List ℕ)). front ++ ks) here

pub schedule_end : (keys : List ℕ) (i left right : ℕ) → i ≡ 16 → length keys ≡ 16 → map (bits 48) (take i keys) ++ schedule (drop i shift_table) (bits 28 left) (bits 28 right) ≡ map (bits 48) keys
unfolding schedule shift_table
schedule_end keys i left right all long =
    ap (λ (n : ℕ). map (bits 48) (take n keys) ++ schedule (drop n shift_table) (bits 28 left) (bits 28 right)) all
    ∙ append-nil (map (bits 48) (take 16 keys))
    ∙ ap (λ (ks : List ℕ). map (bits 48) ks) (take_all 16 keys (omega (arith, long)))

-- the round keys, from the word that the first choice gives
pub round_keys_parts : (key : List ℕ) (word chosen : ℕ) (keys : List (List ℕ)) → bits 64 word ≡ bits_of_each_byte key → bits 56 chosen ≡ pick first_choice_table (bits 64 word) → keys ≡ schedule shift_table (bits 28 (chosen / 2 ^ 28 % 2 ^ 28)) (bits 28 (chosen % 2 ^ 28)) → keys ≡ round_keys key
unfolding round_keys
round_keys_parts key word chosen keys word_is chosen_is keys_are =
    let from_key : bits 56 chosen ≡ pick first_choice_table (bits_of_each_byte key) =
    chosen_is ∙ ap (λ (l : List ℕ). pick first_choice_table l) word_is in
    keys_are
    ∙ ap (λ (l : List ℕ). schedule shift_table l (bits 28 (chosen % 2 ^ 28))) (bits_mod 28 (chosen / 2 ^ 28) 28 (omega arith) ∙ sym (take-bits 28 28 chosen) ∙ ap (λ (l : List ℕ). take 28 l) from_key)
    ∙ ap (λ (l : List ℕ). schedule shift_table (take 28 (pick first_choice_table (bits_of_each_byte key))) l) (bits_mod 28 chosen 28 (omega arith) ∙ sym (drop-bits 28 28 chosen) ∙ ap (λ (l : List ℕ). drop 28 l) from_key)
