-- The decimal digits of a list of hexadecimal ones, and then the others as decimal ones.
use Rattle.std.proofs.Common.{◌≡◌, ℕ, zero, suc, ◌+◌, ◌<◌, ◌≤◌, Bool, true, cond, List, [], ◌∷◌, ◌++◌, length, get_or, map, take, drop, refl, ap, ◌∙◌, arith, length-append}
use Rattle.std.proofs.lemmas.Bool.Decides.{nat_tests}
use Rattle.std.proofs.lemmas.List.{length-map, length-take-le, take-append-drop}
use Rattle.std.proofs.lemmas.List.Elements.{All-append, All-map, All-filter, All-take, filter_passes, filter-append}
use Rattle.std.proofs.lemmas.List.Filters.{length-filter_both, length-filter_more}
use Rattle.std.specs.List.{All, filter}
use Rattle.emv_dict.proofs.HexDigits.{nibbles-packed}
use Rattle.emv_dict.specs.Digits.{AllDecimal}
use Rattle.emv_dict.specs.Nibbles.{nibbles, is_decimal}
use Rattle.card_keys.specs.Decimal.{is_letter, less_ten, decimals_of, as_decimal, decimalised}

both : (digits : List ℕ) → length (filter is_decimal digits) + length (filter is_letter digits) ≡ length digits
both digits = length-filter_both is_decimal is_letter (λ digit. refl) digits

-- fewer than all stand before a place
pub few_decimals : (digits : List ℕ) (i : ℕ) → i < length digits → length (filter is_decimal (take i digits)) < length digits
few_decimals digits i within =
    let size : length (take i digits) ≡ i = length-take-le i digits (omega (arith, within)) in
    omega (arith, both (take i digits), size, within)

front_few : (p : ℕ → Bool) (n : ℕ) (xs : List ℕ) → length (filter p (take n xs)) ≤ length (filter p xs)
front_few p n xs =
    let whole : length (filter p (take n xs ++ drop n xs)) ≡ length (filter p xs) = ap (λ (l : List ℕ). length (filter p l)) (take-append-drop n xs) in
    let parts : length (filter p (take n xs ++ drop n xs)) ≡ length (filter p (take n xs)) + length (filter p (drop n xs)) =
    ap length (filter-append p (take n xs) (drop n xs)) ∙ length-append (filter p (take n xs)) (filter p (drop n xs)) in
    omega (arith, whole, parts)

-- at the place of a letter one more fits behind the decimal ones and the letters before it
pub letters_fit : (digits : List ℕ) (i : ℕ) → i < length digits → is_letter (get_or digits i 0) ≡ true
    → length (decimals_of digits ++ map less_ten (filter is_letter (take i digits))) < length digits
letters_fit digits i within letter =
    let more : length (filter is_letter (take (i + 1) digits)) ≡ length (filter is_letter (take i digits)) + 1 =
    length-filter_more is_letter digits i 0 within ∙ ap (λ (b : Bool). length (filter is_letter (take i digits)) + cond b 1 0) letter in
    let size : length (decimals_of digits ++ map less_ten (filter is_letter (take i digits))) ≡ length (decimals_of digits) + length (filter is_letter (take i digits)) =
    length-append (decimals_of digits) (map less_ten (filter is_letter (take i digits)))
    ∙ ap (λ (n : ℕ). length (decimals_of digits) + n) (length-map (filter is_letter (take i digits)) less_ten) in
    omega (arith, both digits, front_few is_letter (i + 1) digits, more, size)

-- no digit is lost
pub length-as_decimal : (digits : List ℕ) → length (as_decimal digits) ≡ length digits
length-as_decimal digits =
    length-append (decimals_of digits) (map less_ten (filter is_letter digits))
    ∙ ap (λ (n : ℕ). length (decimals_of digits) + n) (length-map (filter is_letter digits) less_ten)
    ∙ both digits

-- they are decimal
pub as_decimal_small : (digits : List ℕ) → All (λ d. d < 16) digits → AllDecimal (as_decimal digits)
as_decimal_small digits small =
    let decimal : AllDecimal (decimals_of digits) = λ k d within. let passes = filter_passes is_decimal digits k d within in grind (arith, nat_tests, passes) in
    let letters : AllDecimal (map less_ten (filter is_letter digits)) =
    All-map (λ d. d ≤ 9) less_ten (filter is_letter digits) (λ k d within. let below = All-filter is_letter (λ n. n < 16) digits small k d within in omega (arith, below)) in
    All-append (λ d. d ≤ 9) (decimals_of digits) (map less_ten (filter is_letter digits)) decimal letters

fronts : (ds ls : List ℕ) (n : ℕ) → take (length ds) (take n (ds ++ ls)) ≡ take n ds
fronts [] ls zero = refl
fronts [] ls (suc n) = refl
fronts (d ∷ ds) ls zero = refl
fronts (d ∷ ds) ls (suc n) = ap (λ (l : List ℕ). d ∷ l) (fronts ds ls n)

-- what the code packs: the first sixteen of a list of forty
pub length-sixteen : (digits list : List ℕ) → length digits ≡ 40 → list ≡ as_decimal digits → length (take 16 list) ≡ 16
length-sixteen digits list long is =
    let size : length list ≡ length (as_decimal digits) = ap length is in
    length-take-le 16 list (omega (arith, size, length-as_decimal digits, long))

pub sixteen_small : (digits list : List ℕ) → All (λ d. d < 16) digits → list ≡ as_decimal digits → AllDecimal (take 16 list)
sixteen_small digits list small is =
    rw is (All-take (λ d. d ≤ 9) 16 (as_decimal digits) (as_decimal_small digits small))

-- the packed digits are read again
pub read_again : (hash digits : List ℕ) → digits ≡ nibbles hash → length digits ≡ 40 → All (λ d. d < 16) digits
    → nibbles (decimalised hash) ≡ take 16 (as_decimal digits)
unfolding decimalised
read_again hash digits is long small =
    let decimal : AllDecimal (take 16 (as_decimal digits)) = sixteen_small digits (as_decimal digits) small refl in
    rw (← is) (nibbles-packed (take 16 (as_decimal digits)) 8 (length-sixteen digits (as_decimal digits) long refl) (λ k d within. let nine = decimal k d within in omega (arith, nine)))

-- the decimal ones of the hash come first
pub decimals_first : (digits : List ℕ) → take (length (decimals_of digits)) (take 16 (as_decimal digits)) ≡ take 16 (decimals_of digits)
decimals_first digits = fronts (decimals_of digits) (map less_ten (filter is_letter digits)) 16
