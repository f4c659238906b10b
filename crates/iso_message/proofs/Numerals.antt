-- Digits as characters, and back.
use Rattle.std.proofs.Common.{◌≡◌, ℕ, suc, zero, Bool, true, ◌+◌, ◌*◌, ◌/◌, ◌%◌, ◌<◌, ◌≤◌, nat_le, List, [], ◌∷◌, ◌++◌, length, take, refl, sym, ap, ◌∙◌, arith, length-append, append_assoc, append-nil, get_or}
use Rattle.std.specs.List.{list_all, All}
use Rattle.std.proofs.lemmas.Bool.{le-leb}
use Rattle.std.proofs.lemmas.Bool.Decides.{nat_tests}
use Rattle.std.proofs.lemmas.List.Folds.{list_all-append}
use Rattle.std.proofs.lemmas.List.{take_more}
use Rattle.ber_tlv.proofs.ReadAgain.{both}
use Rattle.emv_dict.specs.Bcd.{has_digits, number_of_digits}
use Rattle.emv_dict.specs.Digits.{AllDecimal}
use Rattle.emv_dict.specs.Nibbles.{nibbles, packed}
use Rattle.emv_dict.proofs.HexDigits.{nibbles-packed}
use Rattle.auth_message.specs.Field.{are_digits}
use Rattle.iso_message.specs.Text.{digit_characters, values, is_numeral, are_numerals, decimal_digits}

-- each number is a decimal digit
abbrev pub are_decimal : List ℕ → Bool
are_decimal digits = list_all (λ digit. nat_le digit 9) digits

pub at_most : (a b : ℕ) → nat_le a b ≡ true → a ≤ b
at_most a b test = grind (arith, nat_tests)

-- a numeral is one of 30 to 39
pub numeral_range : (character : ℕ) → is_numeral character ≡ true → (48 ≤ character) × (character ≤ 57)
numeral_range character is =
    let parts = both (nat_le 48 character) (nat_le character 57) is in
    (at_most 48 character parts.0, at_most character 57 parts.1)

pub is_numeral_in : (character : ℕ) → 48 ≤ character → character ≤ 57 → is_numeral character ≡ true
is_numeral_in character least most = rw (le-leb 48 character least, le-leb character 57 most) refl

one_digit : (a : ℕ) → is_numeral a ≡ true → a % 16 ≤ 9
one_digit a is = let range = numeral_range a is in let least = range.0 in let most = range.1 in omega arith

-- at most four digits
pub small_number : (characters : List ℕ) → length characters ≤ 4 → are_numerals characters ≡ true → number_of_digits (values characters) ≤ 9999
small_number [] few are = omega arith
small_number (a ∷ []) few are =
    let one = both (is_numeral a) _ are in
    omega (arith, one_digit a one.0)
small_number (a ∷ b ∷ []) few are =
    let one = both (is_numeral a) _ are in
    let two = both (is_numeral b) _ one.1 in
    omega (arith, one_digit a one.0, one_digit b two.0)
small_number (a ∷ b ∷ c ∷ []) few are =
    let one = both (is_numeral a) _ are in
    let two = both (is_numeral b) _ one.1 in
    let three = both (is_numeral c) _ two.1 in
    omega (arith, one_digit a one.0, one_digit b two.0, one_digit c three.0)
small_number (a ∷ b ∷ c ∷ d ∷ []) few are =
    let one = both (is_numeral a) _ are in
    let two = both (is_numeral b) _ one.1 in
    let three = both (is_numeral c) _ two.1 in
    let four = both (is_numeral d) _ three.1 in
    omega (arith, one_digit a one.0, one_digit b two.0, one_digit c three.0, one_digit d four.0)
small_number (a ∷ b ∷ c ∷ d ∷ e ∷ rest) few are = absurd (omega arith)

-- the characters of digits are numerals, and have their digits
pub text_numerals : (digits : List ℕ) → are_decimal digits ≡ true → are_numerals (digit_characters digits) ≡ true
text_numerals [] all = refl
text_numerals (digit ∷ digits) all =
    let parts = both (nat_le digit 9) _ all in
    let small : digit ≤ 9 = at_most digit 9 parts.0 in
    rw (is_numeral_in (48 + digit) (omega arith) (omega arith)) (text_numerals digits parts.1)

pub text_values : (digits : List ℕ) → are_decimal digits ≡ true → values (digit_characters digits) ≡ digits
text_values [] all = refl
text_values (digit ∷ digits) all =
    let parts = both (nat_le digit 9) _ all in
    let small : digit ≤ 9 = at_most digit 9 parts.0 in
    let here : (48 + digit) % 16 ≡ digit = omega arith in
    ap (λ (n : ℕ). n ∷ values (digit_characters digits)) here ∙ ap (λ (ns : List ℕ). digit ∷ ns) (text_values digits parts.1)

pub text_length : (digits : List ℕ) → length (digit_characters digits) ≡ length digits
text_length [] = refl
text_length (digit ∷ digits) = ap suc (text_length digits)

pub values_length : (characters : List ℕ) → length (values characters) ≡ length characters
values_length [] = refl
values_length (character ∷ characters) = ap suc (values_length characters)

-- numerals are the characters of their digits
pub values_text : (characters : List ℕ) → are_numerals characters ≡ true → digit_characters (values characters) ≡ characters
values_text [] all = refl
values_text (character ∷ characters) all =
    let parts = both (is_numeral character) _ all in
    let range = numeral_range character parts.0 in
    let least = range.0 in
    let most = range.1 in
    let here : 48 + character % 16 ≡ character = omega arith in
    ap (λ (n : ℕ). n ∷ digit_characters (values characters)) here ∙ ap (λ (ns : List ℕ). character ∷ ns) (values_text characters parts.1)

pub values_decimal : (characters : List ℕ) → are_numerals characters ≡ true → are_decimal (values characters) ≡ true
values_decimal [] all = refl
values_decimal (character ∷ characters) all =
    let parts = both (is_numeral character) _ all in
    rw (le-leb (character % 16) 9 (one_digit character parts.0)) (values_decimal characters parts.1)

-- the decimal digits of a number
pub decimals : (count number : ℕ) → are_decimal (decimal_digits count number) ≡ true
unfolding decimal_digits
decimals zero number = refl
decimals (suc count) number =
    let last : nat_le (number % 10) 9 ≡ true = le-leb (number % 10) 9 (omega arith) in
    list_all-append (λ digit. nat_le digit 9) (decimal_digits count (number / 10)) (number % 10 ∷ [])
    ∙ rw (decimals count (number / 10), last) refl

pub decimals_length : (count number : ℕ) → length (decimal_digits count number) ≡ count
unfolding decimal_digits
decimals_length zero number = refl
decimals_length (suc count) number =
    omega (arith, length-append (decimal_digits count (number / 10)) (number % 10 ∷ []), decimals_length count (number / 10))

-- a length of two digits, and of four
pub two_read : (number : ℕ) → number < 100 → number_of_digits (decimal_digits 2 number) ≡ number
unfolding decimal_digits
two_read number small = omega arith

pub four_read : (number : ℕ) → number < 10000 → number_of_digits (decimal_digits 4 number) ≡ number
unfolding decimal_digits
four_read number small =
    let tens = number / 10 in
    let hundreds = tens / 10 in
    let thousands = hundreds / 10 in
    omega arith

two_back : (a b : ℕ) → a ≤ 9 → b ≤ 9 → decimal_digits 2 (number_of_digits (a ∷ b ∷ [])) ≡ a ∷ b ∷ []
unfolding decimal_digits
two_back a b small_a small_b =
    let n = number_of_digits (a ∷ b ∷ []) in
    let high : n / 10 % 10 ≡ a = omega arith in
    let low : n % 10 ≡ b = omega arith in
    rw (high, low) refl

four_back : (a b c d : ℕ) → a ≤ 9 → b ≤ 9 → c ≤ 9 → d ≤ 9 → decimal_digits 4 (number_of_digits (a ∷ b ∷ c ∷ d ∷ [])) ≡ a ∷ b ∷ c ∷ d ∷ []
unfolding decimal_digits
four_back a b c d small_a small_b small_c small_d =
    let n = number_of_digits (a ∷ b ∷ c ∷ d ∷ []) in
    let tens : n / 10 ≡ a * 100 + b * 10 + c = omega arith in
    let hundreds : n / 10 / 10 ≡ a * 10 + b = omega arith in
    let thousands : n / 10 / 10 / 10 ≡ a = omega arith in
    let first : n / 10 / 10 / 10 % 10 ≡ a = omega arith in
    let second : n / 10 / 10 % 10 ≡ b = omega arith in
    let third : n / 10 % 10 ≡ c = omega arith in
    let last : n % 10 ≡ d = omega arith in
    rw (first, second, third, last) refl

-- a length that was read is spelled again
pub two_spelled : (characters : List ℕ) → length characters ≡ 2 → are_numerals characters ≡ true → digit_characters (decimal_digits 2 (number_of_digits (values characters))) ≡ characters
two_spelled [] size all = absurd (omega arith)
two_spelled (a ∷ []) size all = absurd (omega arith)
two_spelled (a ∷ b ∷ []) size all =
    let one = both (is_numeral a) _ all in
    let two = both (is_numeral b) _ one.1 in
    ap digit_characters (two_back (a % 16) (b % 16) (one_digit a one.0) (one_digit b two.0)) ∙ values_text (a ∷ b ∷ []) all
two_spelled (a ∷ b ∷ c ∷ rest) size all = absurd (omega arith)

pub four_spelled : (characters : List ℕ) → length characters ≡ 4 → are_numerals characters ≡ true → digit_characters (decimal_digits 4 (number_of_digits (values characters))) ≡ characters
four_spelled [] size all = absurd (omega arith)
four_spelled (a ∷ []) size all = absurd (omega arith)
four_spelled (a ∷ b ∷ []) size all = absurd (omega arith)
four_spelled (a ∷ b ∷ c ∷ []) size all = absurd (omega arith)
four_spelled (a ∷ b ∷ c ∷ d ∷ []) size all =
    let one = both (is_numeral a) _ all in
    let two = both (is_numeral b) _ one.1 in
    let three = both (is_numeral c) _ two.1 in
    let four = both (is_numeral d) _ three.1 in
    ap digit_characters (four_back (a % 16) (b % 16) (c % 16) (d % 16) (one_digit a one.0) (one_digit b two.0) (one_digit c three.0) (one_digit d four.0)) ∙ values_text (a ∷ b ∷ c ∷ d ∷ []) all
four_spelled (a ∷ b ∷ c ∷ d ∷ e ∷ rest) size all = absurd (omega arith)

-- bytes of two digits each
pub nibbles_decimal : (bytes : List ℕ) → are_digits bytes ≡ true → are_decimal (nibbles bytes) ≡ true
unfolding nibbles
nibbles_decimal [] all = refl
nibbles_decimal (byte ∷ bytes) all =
    let parts = both (has_digits byte) _ all in
    let halves = both (nat_le (byte / 16) 9) _ parts.0 in
    rw (halves.0, halves.1) (nibbles_decimal bytes parts.1)

pub packed_nibbles : (bytes : List ℕ) → packed (nibbles bytes) ≡ bytes
unfolding nibbles packed
packed_nibbles [] = refl
packed_nibbles (byte ∷ bytes) =
    let here : byte / 16 * 16 + byte % 16 ≡ byte = omega arith in
    ap (λ (n : ℕ). n ∷ packed (nibbles bytes)) here ∙ ap (λ (ns : List ℕ). byte ∷ ns) (packed_nibbles bytes)

pub packed_text : (bytes : List ℕ) → are_digits bytes ≡ true → packed (values (digit_characters (nibbles bytes))) ≡ bytes
packed_text bytes all = ap packed (text_values (nibbles bytes) (nibbles_decimal bytes all)) ∙ packed_nibbles bytes

small_digits : (digits : List ℕ) → are_decimal digits ≡ true → All (λ digit. digit < 16) digits
small_digits [] all k other within = absurd (omega arith)
small_digits (digit ∷ digits) all zero other within = let small = at_most digit 9 (both (nat_le digit 9) _ all).0 in omega arith
small_digits (digit ∷ digits) all (suc k) other within = small_digits digits (both (nat_le digit 9) _ all).1 k other (omega arith)

-- an even number of digits, packed and taken apart again
pub nibbles_packed : (pairs : ℕ) (digits : List ℕ) → length digits ≡ 2 * pairs → are_decimal digits ≡ true → nibbles (packed digits) ≡ digits
nibbles_packed pairs digits size all = nibbles-packed digits pairs size (small_digits digits all)

pub packed_digits : (pairs : ℕ) (digits : List ℕ) → length digits ≡ 2 * pairs → are_decimal digits ≡ true → are_digits (packed digits) ≡ true
unfolding packed
packed_digits pairs [] size all = refl
packed_digits pairs (high ∷ []) size all = absurd (omega arith)
packed_digits zero (high ∷ low ∷ digits) size all = absurd (omega arith)
packed_digits (suc pairs) (high ∷ low ∷ digits) size all =
    let one = both (nat_le high 9) _ all in
    let two = both (nat_le low 9) _ one.1 in
    let small : low ≤ 9 = at_most low 9 two.0 in
    let first : (high * 16 + low) / 16 ≡ high = omega arith in
    let second : (high * 16 + low) % 16 ≡ low = omega arith in
    rw (first, second, one.0, two.0) (packed_digits pairs digits (omega arith) two.1)

pub all_decimal : (digits : List ℕ) → AllDecimal digits → are_decimal digits ≡ true
all_decimal [] all = refl
all_decimal (digit ∷ digits) all =
    rw (le-leb digit 9 (all 0 0 (omega arith))) (all_decimal digits (λ k other within. all (suc k) other (omega arith)))

pub decimal_at : (characters : List ℕ) (k : ℕ) → are_numerals characters ≡ true → k < length characters → get_or characters k 0 % 16 ≤ 9
decimal_at [] k all within = absurd (omega arith)
decimal_at (character ∷ characters) zero all within = one_digit character (both (is_numeral character) _ all).0
decimal_at (character ∷ characters) (suc k) all within = decimal_at characters k (both (is_numeral character) _ all).1 (omega arith)

-- twelve digits two a byte
pub six_packed :
    (d : List ℕ) → length d ≡ 12
    → packed (values d)
    ≡ (get_or d 0 0 % 16 * 16 + get_or d 1 0 % 16)
    ∷ (get_or d 2 0 % 16 * 16 + get_or d 3 0 % 16)
    ∷ (get_or d 4 0 % 16 * 16 + get_or d 5 0 % 16)
    ∷ (get_or d 6 0 % 16 * 16 + get_or d 7 0 % 16)
    ∷ (get_or d 8 0 % 16 * 16 + get_or d 9 0 % 16)
    ∷ (get_or d 10 0 % 16 * 16 + get_or d 11 0 % 16)
    ∷ []
unfolding packed
six_packed (a ∷ b ∷ c ∷ d ∷ e ∷ f ∷ g ∷ h ∷ i ∷ j ∷ k ∷ l ∷ []) size = refl
six_packed d size = absurd (omega arith)

-- the digits of one byte more
nibbles_joined : (front back : List ℕ) → nibbles (front ++ back) ≡ nibbles front ++ nibbles back
unfolding nibbles
nibbles_joined [] back = refl
nibbles_joined (byte ∷ front) back = ap (λ (ns : List ℕ). byte / 16 ∷ byte % 16 ∷ ns) (nibbles_joined front back)

text_joined : (front back : List ℕ) → digit_characters (front ++ back) ≡ digit_characters front ++ digit_characters back
text_joined [] back = refl
text_joined (digit ∷ front) back = ap (λ (ns : List ℕ). (48 + digit) ∷ ns) (text_joined front back)

one_nibbles : (byte : ℕ) → digit_characters (nibbles (byte ∷ [])) ≡ (48 + byte / 16) ∷ (48 + byte % 16) ∷ []
unfolding nibbles
one_nibbles byte = refl

pub packed_more :
    (out bytes : List ℕ) (k byte : ℕ) → k < length bytes → get_or bytes k 0 ≡ byte
    → ((out ++ digit_characters (nibbles (take k bytes))) ++ (48 + byte / 16) ∷ []) ++ (48 + byte % 16) ∷ [] ≡ out ++ digit_characters (nibbles (take (k + 1) bytes))
packed_more out bytes k byte within here =
    let more : take (k + 1) bytes ≡ take k bytes ++ byte ∷ [] = take_more bytes k 0 within ∙ ap (λ (b : ℕ). take k bytes ++ b ∷ []) here in
    let digits : digit_characters (nibbles (take (k + 1) bytes)) ≡ digit_characters (nibbles (take k bytes)) ++ (48 + byte / 16) ∷ (48 + byte % 16) ∷ [] =
    ap (λ (l : List ℕ). digit_characters (nibbles l)) more ∙ ap digit_characters (nibbles_joined (take k bytes) (byte ∷ [])) ∙ text_joined (nibbles (take k bytes)) (nibbles (byte ∷ []))
    ∙ ap (λ (l : List ℕ). digit_characters (nibbles (take k bytes)) ++ l) (one_nibbles byte) in
    rw digits (simp append_assoc)

pub no_digits : (out : List ℕ) → out ≡ out ++ digit_characters (nibbles [])
unfolding nibbles
no_digits out = sym (append-nil out)
