-- An account number that was packed is read back.
use Rattle.std.proofs.Common.{◌≡◌, ℕ, suc, ◌+◌, ◌*◌, ◌/◌, ◌%◌, ◌<◌, ◌≤◌, ◌⊎◌, inl, inr, true, false, cond, not, List, [], ◌∷◌, ◌++◌, length, take, drop, refl, sym, ◌∙◌, ap, arith, find, Some, None, Option, Ok, Err, append-nil}
use Rattle.std.specs.Option.{option_or}
use Rattle.std.proofs.Math.Seq.{take-append_seam, drop-append_seam}
use Rattle.std.proofs.lemmas.Bool.{cond-true}
use Rattle.std.proofs.lemmas.Bool.Decides.{nat_tests}
use Rattle.emv_dict.specs.Digits.{AllDecimal}
use Rattle.emv_dict.specs.Nibbles.{nibbles, is_decimal}
use Rattle.emv_dict.specs.Pan.{pan_field, pan_of, HasPanLength, is_pan_length, is_filler, filler_place, before_filler, from_filler, stray_nibble, sized_pan, faultless_pan}
use Rattle.emv_dict.specs.declared.pan.PanFault.TheVariants.{Length}

high_of : (h l : ℕ) → l < 16 → (h * 16 + l) / 16 ≡ h
high_of h l small = omega arith

low_of : (h l : ℕ) → l < 16 → (h * 16 + l) % 16 ≡ l
low_of h l small = omega arith

behind : (d : ℕ) (ds : List ℕ) → AllDecimal (d ∷ ds) → AllDecimal ds
behind d ds small k other within = small (suc k) other (omega arith)

-- the nibbles of a packed number are its digits, and a filler behind an odd number of them
packed_nibbles : (ds : List ℕ) → AllDecimal ds → (nibbles (pan_field ds) ≡ ds) ⊎ (nibbles (pan_field ds) ≡ ds ++ 15 ∷ [])
unfolding pan_field nibbles
packed_nibbles [] small = inl refl
packed_nibbles (high ∷ []) small =
    inr (ap (λ (x : ℕ). x ∷ (high * 16 + 15) % 16 ∷ []) (high_of high 15 (omega arith)) ∙ ap (λ (x : ℕ). high ∷ x ∷ []) (low_of high 15 (omega arith)))
packed_nibbles (high ∷ low ∷ rest) small =
    let low_small : low ≤ 9 = small 1 0 (omega arith) in
    let here : (ns : List ℕ) → (high * 16 + low) / 16 ∷ (high * 16 + low) % 16 ∷ ns ≡ high ∷ low ∷ ns =
    λ ns. ap (λ (x : ℕ). x ∷ (high * 16 + low) % 16 ∷ ns) (high_of high low (omega arith)) ∙ ap (λ (x : ℕ). high ∷ x ∷ ns) (low_of high low (omega arith)) in
    elim (packed_nibbles rest (behind low rest (behind high (low ∷ rest) small))) [
      | inl even ↦ inl (here (nibbles (pan_field rest)) ∙ ap (λ (xs : List ℕ). high ∷ low ∷ xs) even)
      | inr odd ↦ inr (here (nibbles (pan_field rest)) ∙ ap (λ (xs : List ℕ). high ∷ low ∷ xs) odd)
    ]

no_filler : (d : ℕ) → d ≤ 9 → is_filler d ≡ false
no_filler d small = grind (arith, nat_tests)

is_digit : (d : ℕ) → d ≤ 9 → is_decimal d ≡ true
is_digit d small = grind (arith, nat_tests)

-- the first filler stands behind the digits
place_bare : (ds : List ℕ) → AllDecimal ds → filler_place ds ≡ length ds
place_bare [] small = refl
place_bare (d ∷ ds) small =
    ap (λ b. cond (not b) (1 + filler_place ds) 0) (no_filler d (small 0 0 (omega arith)))
    ∙ ap (λ n. 1 + n) (place_bare ds (behind d ds small)) ∙ omega arith

place_filled : (ds : List ℕ) → AllDecimal ds → filler_place (ds ++ 15 ∷ []) ≡ length ds
place_filled [] small = refl
place_filled (d ∷ ds) small =
    ap (λ b. cond (not b) (1 + filler_place (ds ++ 15 ∷ [])) 0) (no_filler d (small 0 0 (omega arith)))
    ∙ ap (λ n. 1 + n) (place_filled ds (behind d ds small)) ∙ omega arith

-- no digit is a stray
all_digits : (ds : List ℕ) → AllDecimal ds → find (λ n. not (is_decimal n)) ds ≡ None
all_digits [] small = refl
all_digits (d ∷ ds) small =
    ap (λ b. cond (not b) (Some d) (find (λ n. not (is_decimal n)) ds)) (is_digit d (small 0 0 (omega arith))) ∙ all_digits ds (behind d ds small)

-- digits with these fillers behind are read as the digits
whole :
    (ns ds fs : List ℕ) → ns ≡ ds ++ fs → filler_place ns ≡ length ds → find (λ n. not (is_filler n)) fs ≡ None → AllDecimal ds → HasPanLength ds
    → faultless_pan ns (stray_nibble ns) ≡ Ok ds
whole ns ds fs is place fillers small fits =
    let front : before_filler ns ≡ ds = ap (λ n. take n ns) place ∙ ap (take (length ds)) is ∙ take-append_seam ds fs in
    let back : from_filler ns ≡ fs = ap (λ n. drop n ns) place ∙ ap (drop (length ds)) is ∙ drop-append_seam ds fs in
    let digits : find (λ n. not (is_decimal n)) (before_filler ns) ≡ None = ap (find (λ n. not (is_decimal n))) front ∙ all_digits ds small in
    let rest : find (λ n. not (is_filler n)) (from_filler ns) ≡ None = ap (find (λ n. not (is_filler n))) back ∙ fillers in
    ap (λ (first : Option ℕ). faultless_pan ns (option_or first (find (λ n. not (is_filler n)) (from_filler ns)))) digits
    ∙ ap (λ (second : Option ℕ). faultless_pan ns second) rest
    ∙ ap sized_pan front
    ∙ cond-true (is_pan_length (length ds)) (Ok ds) (Err (Length (length ds))) fits

-- the field of an account number is read as its digits
pub read_back : (ds : List ℕ) → HasPanLength ds → AllDecimal ds → pan_of (pan_field ds) ≡ Ok ds
unfolding pan_of
read_back ds fits small =
    elim (packed_nibbles ds small) [
      | inl even ↦ whole (nibbles (pan_field ds)) ds [] (even ∙ sym (append-nil ds)) (ap filler_place even ∙ place_bare ds small) refl small fits
      | inr odd ↦ whole (nibbles (pan_field ds)) ds (15 ∷ []) odd (ap filler_place odd ∙ place_filled ds small) refl small fits
    ]
