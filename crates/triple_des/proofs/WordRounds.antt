-- The rounds on words.
use Rattle.std.proofs.Common.{◌≡◌, ℕ, ◌+◌, ◌*◌, ◌/◌, ◌%◌, ◌^◌, ◌<◌, ◌≤◌, List, length, get_or, drop, map, ap, sym, ◌∙◌, bit_xor}
use Rattle.std.proofs.lemmas.List.{at_drop_more, at_drop_all}
use Rattle.triple_des.specs.Bits.{bits, pick, xor}
use Rattle.triple_des.specs.Tables.{initial_table, final_table}
use Rattle.triple_des.specs.Des.{cipher_function, round, rounds, halves_of, swapped, cipher}
use Rattle.triple_des.proofs.Words.{bits_xor}
use Rattle.triple_des.proofs.Halves.{halves_of-bits, bits-swapped}

-- one key more
pub rounds_step : (keys : List ℕ) (i left right mixed : ℕ) → i < length keys → bits 32 mixed ≡ cipher_function (bits 32 right) (bits 48 (get_or keys i 0)) → rounds (map (bits 48) (drop (i + 1) keys)) (bits 32 right, bits 32 (bit_xor left mixed)) ≡ rounds (map (bits 48) (drop i keys)) (bits 32 left, bits 32 right)
unfolding rounds round
rounds_step keys i left right mixed below is =
    let here : ℕ = get_or keys i 0 in
    ap (λ (b : List ℕ). rounds (map (bits 48) (drop (i + 1) keys)) (bits 32 right, b)) (bits_xor 32 left mixed ∙ ap (λ (b : List ℕ). xor (bits 32 left) b) is)
    ∙ sym (at_drop_more (λ (ks : List ℕ). rounds (map (bits 48) ks) (bits 32 left, bits 32 right)) keys i 0 below)

pub rounds_end : (keys : List ℕ) (i left right : ℕ) → length keys ≤ i → rounds (map (bits 48) (drop i keys)) (bits 32 left, bits 32 right) ≡ (bits 32 left, bits 32 right)
unfolding rounds
rounds_end keys i left right past = at_drop_all (λ (ks : List ℕ). rounds (map (bits 48) ks) (bits 32 left, bits 32 right)) keys i past

-- the cipher, from its parts on words
pub cipher_parts : (keys : List (List ℕ)) (block start left right final : ℕ) → bits 64 start ≡ pick initial_table (bits 64 block) → (bits 32 left, bits 32 right) ≡ rounds keys (bits 32 (start / 2 ^ 32), bits 32 (start % 2 ^ 32)) → left < 2 ^ 32 → bits 64 final ≡ pick final_table (bits 64 (right * 2 ^ 32 + left)) → bits 64 final ≡ cipher keys (bits 64 block)
unfolding cipher
cipher_parts keys block start left right final start_is halves_are small final_is =
    final_is
    ∙ ap (λ (l : List ℕ). pick final_table l) (bits-swapped left right small)
    ∙ ap (λ (h : List ℕ × List ℕ). pick final_table (swapped h)) (halves_are
    ∙ ap (λ (h : List ℕ × List ℕ). rounds keys h) (sym (halves_of-bits start) ∙ ap (λ (l : List ℕ). halves_of l) start_is))
