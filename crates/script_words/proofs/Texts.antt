-- The digits and the numbers that texts write, and the texts that write them.
use Rattle.std.proofs.Common.{◌≡◌, ◌≢◌, ℕ, zero, suc, ◌+◌, ◌-◌, ◌^◌, ◌<◌, ◌≤◌, Bool, true, false, not, nat_le, nat_eq, cond, List, [], ◌∷◌, length, get_or, map, Option, Some, None, refl, sym, ◌∙◌, ap, arith}
use Rattle.std.specs.Prelude.{IfSome, decimal}
use Rattle.std.specs.Char.{is_ascii_digit}
use Rattle.std.specs.Str.{all_ascii_digits}
use Rattle.std.specs.Str.Parse.{digits_value, AllDigits}
use Rattle.std.proofs.lemmas.Bool.Decides.{nat_tests}
use Rattle.std.proofs.lemmas.List.{length-map}
use Rattle.std.proofs.lemmas.List.Elements.{All-cons}
use Rattle.std.proofs.lemmas.Fmt.{decimal_digit, decimal-digits_value, digits_decimal, decimal_is_IsNumeral, first_decimal}
use Rattle.emv_dict.specs.Digits.{AllDecimal, HasPinLength, is_pin_length}
use Rattle.script_words.specs.Numeral.{is_shortest, digit_before, digit_values, pin_in_text, numeral_of}
use Rattle.script_words.proofs.Numerals.{own, value_behind}

small_limit : (n most : ℕ) → n ≤ most → most ≤ 999999999999 → n < 2 ^ 64
small_limit n most below small = omega arith

not_zero : (c : ℕ) → not (nat_eq c 48) ≡ true → c ≢ 48
not_zero c other same = grind (arith, nat_tests)

no_leading_zero : (text : List ℕ) → is_shortest text ≡ true → get_or text 0 0 ≡ 48 → length text ≡ 1
no_leading_zero [] shortest nought = cc
no_leading_zero (c ∷ []) shortest nought = refl
no_leading_zero (c ∷ d ∷ cs) shortest nought = absurd (not_zero c shortest nought)

not_empty : (text : List ℕ) → is_shortest text ≡ true → 0 < length text
not_empty [] shortest = cc
not_empty (c ∷ cs) shortest = omega arith

is_shortest_of : (text : List ℕ) → 0 < length text → (get_or text 0 0 ≡ 48 → length text ≡ 1) → is_shortest text ≡ true
is_shortest_of [] some nought = absurd (omega arith)
is_shortest_of (c ∷ []) some nought = refl
is_shortest_of (c ∷ d ∷ cs) some nought = other (nat_eq c 48) refl
  where
    other : (p : Bool) → nat_eq c 48 ≡ p → not p ≡ true
    other true same = absurd (let one : length (c ∷ d ∷ cs) ≡ 1 = nought (grind (arith, nat_tests)) in omega arith)
    other false same = refl

-- a number that was read is written so
numeral_by : (most : ℕ) (text : List ℕ) → most ≤ 999999999999 → (p q r : Bool) → is_shortest text ≡ p → all_ascii_digits text ≡ q → nat_le (digits_value 10 text) most ≡ r
    → IfSome (cond p (cond q (cond r (Some (digits_value 10 text)) None) None) None) (λ n. decimal n ≡ text)
numeral_by most text small true true true shortest digits below =
    let value : value_behind 0 text ≡ digits_value 10 text = own.same text (own.to text digits) in
    let within : digits_value 10 text ≤ most = grind (arith, nat_tests) in
    ap decimal (sym value)
    ∙ decimal-digits_value own text digits (not_empty text shortest) (no_leading_zero text shortest) (omega arith)
numeral_by most text small true true false shortest digits above = tt
numeral_by most text small true false r shortest other below = tt
numeral_by most text small false q r long digits below = tt

pub numeral_spelled : (most : ℕ) (text : List ℕ) → most ≤ 999999999999 → IfSome (numeral_of most text) (λ n. decimal n ≡ text)
unfolding numeral_of
numeral_spelled most text small = numeral_by most text small _ _ _ refl refl refl

-- a number that is written so is read
shortest_decimal : (n : ℕ) → n < 2 ^ 64 → is_shortest (decimal n) ≡ true
shortest_decimal n small =
    is_shortest_of (decimal n) (decimal_is_IsNumeral n small).0.0 (λ nought. of_zero n small nought)
  where
    of_zero : (n : ℕ) → n < 2 ^ 64 → get_or (decimal n) 0 0 ≡ 48 → length (decimal n) ≡ 1
    of_zero zero small first = rw (decimal_digit 0 (omega arith)) refl
    of_zero (suc n) small first =
        let above : 48 < get_or (decimal (suc n)) 0 0 = first_decimal (suc n) (omega arith) small in
        absurd (omega arith)

pub numeral_known : (most n : ℕ) → most ≤ 999999999999 → n ≤ most → numeral_of most (decimal n) ≡ Some n
unfolding numeral_of
numeral_known most n limit below =
    let small : n < 2 ^ 64 = small_limit n most below limit in
    let shortest : is_shortest (decimal n) ≡ true = shortest_decimal n small in
    let digits : all_ascii_digits (decimal n) ≡ true = digits_decimal own n small in
    let value : digits_value 10 (decimal n) ≡ n = (decimal_is_IsNumeral n small).1 in
    let fits : nat_le n most ≡ true = grind (arith, nat_tests) in
    rw (shortest, digits, value, fits) refl

-- digits that were read are written so
one_more : (c : ℕ) (cs : List ℕ) (p : Bool) (read : Option (List ℕ)) → is_ascii_digit c ≡ p → IfSome read (λ ds. map (λ d. d + 48) ds ≡ cs)
    → IfSome (cond p (digit_before (c - 48) read) None) (λ ds. map (λ d. d + 48) ds ≡ c ∷ cs)
one_more c cs true (Some ds) digit rest =
    let back : c - 48 + 48 ≡ c = grind (arith, nat_tests) in
    rw (back, rest) refl
one_more c cs true None digit rest = tt
one_more c cs false read other rest = tt

digits_spelled : (text : List ℕ) → IfSome (digit_values text) (λ ds. map (λ d. d + 48) ds ≡ text)
digits_spelled [] = refl
digits_spelled (c ∷ cs) = one_more c cs (is_ascii_digit c) (digit_values cs) refl (digits_spelled cs)

only_if : (p : Bool) (read : Option (List ℕ)) (P : List ℕ → Type 0) → IfSome read P → IfSome (cond p read None) P
only_if true read P holds = holds
only_if false read P holds = tt

pub pin_spelled : (text : List ℕ) → IfSome (pin_in_text text) (λ ds. map (λ d. d + 48) ds ≡ text)
unfolding pin_in_text
pin_spelled text = only_if _ (digit_values text) (λ ds. map (λ d. d + 48) ds ≡ text) (digits_spelled text)

-- digits that are written so are read
digit_text : (d : ℕ) → d ≤ 9 → is_ascii_digit (d + 48) ≡ true
digit_text d small = grind (arith, nat_tests)

digits_known : (ds : List ℕ) → AllDecimal ds → digit_values (map (λ d. d + 48) ds) ≡ Some ds
digits_known [] small = refl
digits_known (d ∷ ds) small =
    let digit : is_ascii_digit (d + 48) ≡ true = digit_text d (small 0 0 (omega arith)) in
    let rest : digit_values (map (λ d. d + 48) ds) ≡ Some ds = digits_known ds (λ k e within. small (suc k) e (omega arith)) in
    let back : d + 48 - 48 ≡ d = omega arith in
    rw (digit, rest, back) refl

pub pin_known : (ds : List ℕ) → HasPinLength ds → AllDecimal ds → pin_in_text (map (λ d. d + 48) ds) ≡ Some ds
unfolding pin_in_text
pin_known ds sized small = rw (length-map ds (λ d. d + 48), sized) (digits_known ds small)

pub all_digits : (ds : List ℕ) → AllDecimal ds → AllDigits 10 (map (λ d. d + 48) ds)
all_digits ds small = own.to (map (λ d. d + 48) ds) (each ds small)
  where
    each : (ds : List ℕ) → AllDecimal ds → all_ascii_digits (map (λ d. d + 48) ds) ≡ true
    each [] small = refl
    each (d ∷ ds) small =
        let digit : is_ascii_digit (d + 48) ≡ true = digit_text d (small 0 0 (omega arith)) in
        rw digit (each ds (λ k e within. small (suc k) e (omega arith)))

-- what was read is as long and as great as it may be
digit_small : (c : ℕ) → is_ascii_digit c ≡ true → c - 48 ≤ 9
digit_small c digit = grind (arith, nat_tests)

one_more_decimal : (c : ℕ) (p : Bool) (read : Option (List ℕ)) → is_ascii_digit c ≡ p → IfSome read AllDecimal → IfSome (cond p (digit_before (c - 48) read) None) AllDecimal
one_more_decimal c true (Some ds) digit rest = All-cons (λ d. d ≤ 9) (c - 48) ds (digit_small c digit) rest
one_more_decimal c true None digit rest = tt
one_more_decimal c false read other rest = tt

digits_decimal_read : (text : List ℕ) → IfSome (digit_values text) AllDecimal
digits_decimal_read [] = λ k d within. absurd (omega arith)
digits_decimal_read (c ∷ cs) = one_more_decimal c (is_ascii_digit c) (digit_values cs) refl (digits_decimal_read cs)

sized_by : (text : List ℕ) (p : Bool) (read : Option (List ℕ)) → is_pin_length (length text) ≡ p → IfSome read AllDecimal → IfSome read (λ ds. map (λ d. d + 48) ds ≡ text)
    → IfSome (cond p read None) (λ ds. HasPinLength ds × AllDecimal ds)
sized_by text true (Some ds) sized decimal same =
    let count : length ds ≡ length text = sym (length-map ds (λ d. d + 48)) ∙ ap length same in
    (ap is_pin_length count ∙ sized, decimal)
sized_by text true None sized decimal same = tt
sized_by text false read other decimal same = tt

pub pin_proper : (text : List ℕ) → IfSome (pin_in_text text) (λ ds. HasPinLength ds × AllDecimal ds)
unfolding pin_in_text
pin_proper text = sized_by text _ (digit_values text) refl (digits_decimal_read text) (digits_spelled text)

within_by : (most n : ℕ) (p q r : Bool) → nat_le n most ≡ r → IfSome (cond p (cond q (cond r (Some n) None) None) None) (λ m. m ≤ most)
within_by most n true true true below = grind (arith, nat_tests)
within_by most n true true false above = tt
within_by most n true false r below = tt
within_by most n false q r below = tt

pub numeral_proper : (most : ℕ) (text : List ℕ) → IfSome (numeral_of most text) (λ n. n ≤ most)
unfolding numeral_of
numeral_proper most text = within_by most (digits_value 10 text) _ _ _ refl
