-- A state behind its length, byte by byte.
use Rattle.std.proofs.Common.{◌≡◌, ◌<◌, ◌≤◌, ◌+◌, ◌*◌, ◌/◌, ◌%◌, ℕ, suc, List, [], ◌∷◌, length, get_or, take, drop, refl, ap, sym, ◌∙◌, subst, arith, Some, None, Bool, true, false, ◌&&◌, nat_lt, nat_le}
use Rattle.std.specs.Prelude.{if◌then◌else◌}
use Rattle.std.proofs.lemmas.Bool.Decides.{nat_tests}
use Rattle.std.proofs.lemmas.List.{length-take, length-take-le, get_or-take, take_at}
use Rattle.std.proofs.lemmas.List.Prefix.{front_from_reads}
use Rattle.torn_store.specs.Layout.{state_in, framed}

pub both_true : (p q : Bool) → (p && q) ≡ true → (p ≡ true) × (q ≡ true)
both_true true q is = (refl, is)
both_true false q is = cc

-- a test that a state was found by
record Fits (high low : ℕ) (text state : List ℕ) : Type 0 where
  pub low_byte : low < 256
  pub short : high * 256 + low ≤ 1024
  pub is : take (high * 256 + low) text ≡ state

fits_if : (test : Bool) (high low : ℕ) (text state : List ℕ) → (nat_lt low 256 && nat_le (high * 256 + low) 1024) ≡ test
    → (if test then Some (take (high * 256 + low) text) else None) ≡ Some state → Fits high low text state
fits_if true high low text state is found =
    let both = both_true (nat_lt low 256) (nat_le (high * 256 + low) 1024) is in
    let first : nat_lt low 256 ≡ true = both.0 in
    let second : nat_le (high * 256 + low) 1024 ≡ true = both.1 in
    record { low_byte = grind (arith, nat_tests, first); short = grind (arith, nat_tests, second); is = cc }
fits_if false high low text state is found = cc

-- a state that is found has at most 1,024 bytes
pub found_fits : (bytes state : List ℕ) → state_in bytes ≡ Some state → length state ≤ 1024
found_fits [] state found = cc
found_fits (high ∷ []) state found = cc
found_fits (high ∷ low ∷ text) state found =
    let fits = fits_if (nat_lt low 256 && nat_le (high * 256 + low) 1024) high low text state refl found in
    let short : high * 256 + low ≤ 1024 = fits.short in
    subst (λ (l : List ℕ). length l ≤ 1024) fits.is (omega (arith, length-take (high * 256 + low) text))

-- bytes in which a state is found begin with its frame
pub frame_found : (bytes state : List ℕ) → 1026 ≤ length bytes → state_in bytes ≡ Some state
    → (length state ≤ 1024) × (take (length state + 2) bytes ≡ framed state)
frame_found [] state long found = cc
frame_found (high ∷ []) state long found = cc
frame_found (high ∷ low ∷ text) state long found =
    let fits = fits_if (nat_lt low 256 && nat_le (high * 256 + low) 1024) high low text state refl found in
    let low_byte : low < 256 = fits.low_byte in
    let short : high * 256 + low ≤ 1024 = fits.short in
    let size : length state ≡ high * 256 + low = ap length (sym fits.is) ∙ length-take-le (high * 256 + low) text (omega arith) in
    let is_high : length state / 256 ≡ high = omega arith in
    let is_low : length state % 256 ≡ low = omega arith in
    let more : length state + 2 ≡ suc (suc (length state)) = omega arith in
    (omega arith, ap (λ (n : ℕ). take n (high ∷ low ∷ text)) more ∙ rw (is_high, is_low, size) (ap (λ (l : List ℕ). high ∷ low ∷ l) fits.is))

-- bytes that begin with the frame of a state give the state
pub state_found : (bytes state : List ℕ) → length state ≤ 1024 → length state + 2 ≤ length bytes → take (length state + 2) bytes ≡ framed state
    → state_in bytes ≡ Some state
state_found [] state fits long begins = absurd (omega arith)
state_found (high ∷ []) state fits long begins = absurd (omega arith)
state_found (high ∷ low ∷ text) state fits long begins =
    let more : length state + 2 ≡ suc (suc (length state)) = omega arith in
    let parts : high ∷ low ∷ take (length state) text ≡ length state / 256 ∷ length state % 256 ∷ state =
    sym (ap (λ (n : ℕ). take n (high ∷ low ∷ text)) more) ∙ begins in
    let is_high : high ≡ length state / 256 = cc in
    let is_low : low ≡ length state % 256 = cc in
    let is_text : take (length state) text ≡ state = cc in
    let number : high * 256 + low ≡ length state = omega arith in
    let low_byte : nat_lt low 256 ≡ true = grind (arith, nat_tests) in
    let short : nat_le (length state) 1024 ≡ true = grind (arith, nat_tests) in
    rw (number, low_byte, short, is_text) refl

-- the same, byte by byte
pub state_from_reads : (bytes state : List ℕ) → length state ≤ 1024 → length state + 2 ≤ length bytes
    → ((i : ℕ) → i < length state + 2 → get_or bytes i 0 ≡ get_or (framed state) i 0) → state_in bytes ≡ Some state
state_from_reads bytes state fits long each =
    let size : length (framed state) ≡ length state + 2 = omega arith in
    let whole = front_from_reads 0 bytes (framed state) (omega arith) (λ i below. each i (omega arith)) in
    state_found bytes state fits long
    (ap (take (length state + 2)) whole ∙ take_at (framed state) (drop (length (framed state)) bytes) (length state + 2) size)

pub found_reads : (bytes state : List ℕ) → 1026 ≤ length bytes → state_in bytes ≡ Some state
    → (i : ℕ) → i < length (framed state) → get_or bytes i 0 ≡ get_or (framed state) i 0
found_reads bytes state long found i below =
    let size : length (framed state) ≡ length state + 2 = omega arith in
    sym (get_or-take (length state + 2) bytes i 0 (omega arith)) ∙ ap (λ (l : List ℕ). get_or l i 0) (frame_found bytes state long found).1
