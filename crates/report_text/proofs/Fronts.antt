-- What stands at the front of a text. The characters of a word are at or above a bound, and what follows it
-- begins below.
use Rattle.std.proofs.Common.{◌≡◌, ℕ, zero, suc, ◌+◌, ◌*◌, ◌/◌, ◌%◌, ◌<◌, ◌≤◌, ◌==◌, nat_lt, Bool, true, false, List, [], ◌∷◌, ◌++◌, drop, refl, sym, ap, ◌∙◌, arith, Some, Ok, Result}
use Rattle.std.specs.Prelude.{slice_index, not, if◌then◌else◌, IsTrue, decimal, length, ℤ, pos, negsuc}
use Rattle.std.specs.Fmt.{digits, digits_onto, digit_glyph, signed_decimal}
use Rattle.std.specs.List.{All}
use Rattle.std.specs.Int.{byte_at, bytes_high_first}
use Rattle.std.proofs.lemmas.Bool.Decides.{nat_tests}
use Rattle.std.proofs.lemmas.List.Elements.{All-nil, All-cons, All-head, All-tail, All-weaker}
use Rattle.hex.specs.Hex.{encode_lower, encode_with, lower_digits, hex_digit_value, decode_of, IsBytes}
use Rattle.hex.specs.declared.error.FromHexError.{FromHexError}
use Rattle.hex.proofs.HexLemmas.{decode_of-encode_lower, IsDigits-lower_digits}
use Rattle.report_text.specs.Pieces.{hex_or_dash, digits_text, two_bytes}
use Rattle.ber_tlv.specs.Item.{AreBytes}
use Rattle.ber_tlv.specs.Written.{tag_bytes}
use Rattle.emv_dict.specs.Flags.{tvr_bytes}

abbrev pub AtLeast : ℕ → List ℕ → Type 0
AtLeast bound word = All (λ c. bound ≤ c) word

pub high_head : (bound c : ℕ) (word : List ℕ) → AtLeast bound (c ∷ word) → bound ≤ c
high_head bound c word all = All-head (λ (x : ℕ). bound ≤ x) c word all

pub high_tail : (bound c : ℕ) (word : List ℕ) → AtLeast bound (c ∷ word) → AtLeast bound word
high_tail bound c word all = All-tail (λ (x : ℕ). bound ≤ x) c word all

high_cons : (bound c : ℕ) (word : List ℕ) → bound ≤ c → AtLeast bound word → AtLeast bound (c ∷ word)
high_cons bound c word here all = All-cons (λ (x : ℕ). bound ≤ x) c word here all

byte_head : (b : ℕ) (bytes : List ℕ) → AreBytes (b ∷ bytes) → b < 256
byte_head b bytes all = all 0

byte_tail : (b : ℕ) (bytes : List ℕ) → AreBytes (b ∷ bytes) → AreBytes bytes
byte_tail b bytes all k = all (suc k)

byte_cons : (b : ℕ) (bytes : List ℕ) → b < 256 → AreBytes bytes → AreBytes (b ∷ bytes)
byte_cons b bytes here all zero = here
byte_cons b bytes here all (suc k) = all k

pub no_bytes : AreBytes []
no_bytes k = omega arith

pub one_byte : (b : ℕ) → b < 256 → AreBytes (b ∷ [])
one_byte b h = byte_cons b [] h no_bytes

pub first_same : (c d : ℕ) (r s : List ℕ) → c ∷ r ≡ d ∷ s → c ≡ d
first_same c d r s e = cc

-- what follows so many characters
pub behind : (count : ℕ) {s t : List ℕ} → s ≡ t → drop count s ≡ drop count t
behind count e = ap (drop count) e

-- a word and what follows it
pub word : (bound : ℕ) (xs ys : List ℕ) (c d : ℕ) (r s : List ℕ) → xs ++ c ∷ r ≡ ys ++ d ∷ s → AtLeast bound xs → AtLeast bound ys → c < bound → d < bound → (xs ≡ ys) × (c ∷ r ≡ d ∷ s)
word bound [] [] c d r s e p q h k = (refl, e)
word bound [] (y ∷ ys) c d r s e p q h k =
    let first : c ≡ y = cc in
    let high : bound ≤ y = high_head bound y ys q in
    absurd (omega arith)
word bound (x ∷ xs) [] c d r s e p q h k =
    let first : x ≡ d = cc in
    let high : bound ≤ x = high_head bound x xs p in
    absurd (omega arith)
word bound (x ∷ xs) (y ∷ ys) c d r s e p q h k =
    let first : x ≡ y = cc in
    let rest : xs ++ c ∷ r ≡ ys ++ d ∷ s = cc in
    let same = word bound xs ys c d r s rest (high_tail bound x xs p) (high_tail bound y ys q) h k in
    let words : xs ≡ ys = same.0 in
    (cc, same.1)

-- the digits of a number, whatever its size
abbrev IsDigit : ℕ → Type 0
IsDigit c = (48 ≤ c) × (c < 58)

glyph_digit : (d : ℕ) → d < 10 → IsDigit (digit_glyph false d)
glyph_digit d h =
    let yes : nat_lt d 10 ≡ true = grind (arith, nat_tests) in
    rw yes (omega arith, omega arith)

onto_digits : (k n : ℕ) (acc : List ℕ) → All IsDigit acc → All IsDigit (digits_onto k 10 false n acc)
onto_digits zero n acc all = all
onto_digits (suc k) n acc all =
    let d : ℕ = digit_glyph false (n % 10) in
    let here : All IsDigit (d ∷ acc) = All-cons IsDigit d acc (glyph_digit (n % 10) (omega arith)) all in
    let later : All IsDigit (digits_onto k 10 false (n / 10) (d ∷ acc)) = onto_digits k (n / 10) (d ∷ acc) here in
    elim (n / 10 == 0) as (λ b. All IsDigit (if b then d ∷ acc else digits_onto k 10 false (n / 10) (d ∷ acc))) [ true ↦ here | false ↦ later ]

onto_more : (k n : ℕ) (acc : List ℕ) → 0 < length acc → 0 < length (digits_onto k 10 false n acc)
onto_more zero n acc some = some
onto_more (suc k) n acc some =
    let d : ℕ = digit_glyph false (n % 10) in
    let here : 0 < length (d ∷ acc) = omega arith in
    let later : 0 < length (digits_onto k 10 false (n / 10) (d ∷ acc)) = onto_more k (n / 10) (d ∷ acc) here in
    elim (n / 10 == 0) as (λ b. 0 < length (if b then d ∷ acc else digits_onto k 10 false (n / 10) (d ∷ acc))) [ true ↦ here | false ↦ later ]

onto_some : (k n : ℕ) → 0 < length (digits_onto (suc k) 10 false n [])
onto_some k n =
    let d : ℕ = digit_glyph false (n % 10) in
    let here : 0 < length (d ∷ []) = omega arith in
    let later : 0 < length (digits_onto k 10 false (n / 10) (d ∷ [])) = onto_more k (n / 10) (d ∷ []) here in
    elim (n / 10 == 0) as (λ b. 0 < length (if b then d ∷ [] else digits_onto k 10 false (n / 10) (d ∷ []))) [ true ↦ here | false ↦ later ]

decimal_digits : (n : ℕ) → All IsDigit (decimal n)
unfolding digits
decimal_digits n = onto_digits 64 n [] (All-nil IsDigit)

decimal_some : (n : ℕ) → 0 < length (decimal n)
unfolding digits
decimal_some n = onto_some 63 n

pub decimal_high : (n : ℕ) → AtLeast 48 (decimal n)
decimal_high n = All-weaker IsDigit (λ (c : ℕ). 48 ≤ c) (λ c h. h.0) (decimal n) (decimal_digits n)

first_low : (ds rest : List ℕ) → All IsDigit ds → 0 < length ds → slice_index (ds ++ rest) 0 < 58
first_low [] rest all some = absurd (omega arith)
first_low (d ∷ ds) rest all some = (All-head IsDigit d ds all).1

pub decimal_first : (n : ℕ) (rest : List ℕ) → slice_index (decimal n ++ rest) 0 < 58
decimal_first n rest = first_low (decimal n) rest (decimal_digits n) (decimal_some n)

pub number : (m n c d : ℕ) (r s : List ℕ) → decimal m ++ c ∷ r ≡ decimal n ++ d ∷ s → c < 48 → d < 48 → (decimal m ≡ decimal n) × (c ∷ r ≡ d ∷ s)
number m n c d r s e hc hd = word 48 (decimal m) (decimal n) c d r s e (decimal_high m) (decimal_high n) hc hd

-- an amount, which may begin with a minus sign
pub amount_high : (z : ℤ) → AtLeast 45 (signed_decimal z)
amount_high (pos n) = All-weaker (λ (c : ℕ). 48 ≤ c) (λ (c : ℕ). 45 ≤ c) (λ c h. omega arith) (decimal n) (decimal_high n)
amount_high (negsuc n) =
    high_cons 45 45 (decimal (suc n)) (omega arith)
    (All-weaker (λ (c : ℕ). 48 ≤ c) (λ (c : ℕ). 45 ≤ c) (λ c h. omega arith) (decimal (suc n)) (decimal_high (suc n)))

pub amount : (y z : ℤ) {r s : List ℕ} → signed_decimal y ++ 10 ∷ r ≡ signed_decimal z ++ 10 ∷ s → (signed_decimal y ≡ signed_decimal z) × (r ≡ s)
amount y z {r} {s} e =
    let same = word 45 (signed_decimal y) (signed_decimal z) 10 10 r s e (amount_high y) (amount_high z) (omega arith) (omega arith) in
    (same.0, behind 1 same.1)

-- bytes in hexadecimal
digit_range : (c d : ℕ) → hex_digit_value c ≡ Some d → d < 16 → slice_index lower_digits d ≡ c → (48 ≤ c)
digit_range c d e h at = grind (arith, nat_tests)

digit_low : (c d : ℕ) → hex_digit_value c ≡ Some d → d < 16 → slice_index lower_digits d ≡ c → c < 103
digit_low c d e h at = grind (arith, nat_tests)

pub digit_high : (d : ℕ) → d < 16 → 48 ≤ slice_index lower_digits d
digit_high d h = digit_range (slice_index lower_digits d) d (IsDigits-lower_digits d h) h refl

pub hex_high : (bytes : List ℕ) → AreBytes bytes → AtLeast 48 (encode_lower bytes)
unfolding encode_with
hex_high [] all = All-nil (λ (x : ℕ). 48 ≤ x)
hex_high (b ∷ rest) all =
    let small : b < 256 = byte_head b rest all in
    let second : AtLeast 48 (slice_index lower_digits (b % 16) ∷ encode_lower rest) =
    high_cons 48 (slice_index lower_digits (b % 16)) (encode_lower rest) (digit_high (b % 16) (omega arith)) (hex_high rest (byte_tail b rest all)) in
    high_cons 48 (slice_index lower_digits (b / 16)) (slice_index lower_digits (b % 16) ∷ encode_lower rest) (digit_high (b / 16) (omega arith)) second

is_bytes : (bytes : List ℕ) → AreBytes bytes → IsBytes bytes
is_bytes [] all i = omega arith
is_bytes (b ∷ rest) all zero = byte_head b rest all
is_bytes (b ∷ rest) all (suc i) = is_bytes rest (byte_tail b rest all) i

abbrev bytes_ok : List ℕ → Result (List ℕ) FromHexError
bytes_ok bytes = Ok bytes

ok_same : (xs ys : List ℕ) → bytes_ok xs ≡ bytes_ok ys → xs ≡ ys
ok_same xs ys e = cc

pub hex_same : (xs ys : List ℕ) → AreBytes xs → AreBytes ys → encode_lower xs ≡ encode_lower ys → xs ≡ ys
hex_same xs ys p q e = ok_same xs ys (sym (decode_of-encode_lower xs (is_bytes xs p)) ∙ ap decode_of e ∙ decode_of-encode_lower ys (is_bytes ys q))

pub hex : (xs ys : List ℕ) (c d : ℕ) (r s : List ℕ) → encode_lower xs ++ c ∷ r ≡ encode_lower ys ++ d ∷ s → AreBytes xs → AreBytes ys → c < 48 → d < 48 → (xs ≡ ys) × (c ∷ r ≡ d ∷ s)
hex xs ys c d r s e p q hc hd =
    let same = word 48 (encode_lower xs) (encode_lower ys) c d r s e (hex_high xs p) (hex_high ys q) hc hd in
    (hex_same xs ys p q same.0, same.1)

-- bytes in hexadecimal, or a dash, to the end of a line
pub no_dash : (bytes r s : List ℕ) → 45 ∷ r ≡ encode_lower bytes ++ s → AreBytes bytes → 0 < length bytes → ⊥
unfolding encode_with
no_dash [] r s e all some = omega arith
no_dash (b ∷ bytes) r s e all some =
    let first : 45 ≡ slice_index lower_digits (b / 16) = cc in
    let small : b < 256 = byte_head b bytes all in
    let high : 48 ≤ slice_index lower_digits (b / 16) = digit_high (b / 16) (omega arith) in
    omega arith

pub dash : (xs ys : List ℕ) {r s : List ℕ} → hex_or_dash xs ++ 10 ∷ r ≡ hex_or_dash ys ++ 10 ∷ s → AreBytes xs → AreBytes ys → (xs ≡ ys) × (r ≡ s)
unfolding hex_or_dash
dash [] [] e p q = (refl, behind 2 e)
dash [] (y ∷ ys) e p q = absurd (no_dash (y ∷ ys) _ _ e q (omega arith))
dash (x ∷ xs) [] e p q = absurd (no_dash (x ∷ xs) _ _ (sym e) p (omega arith))
dash (x ∷ xs) (y ∷ ys) {r} {s} e p q =
    let same = hex (x ∷ xs) (y ∷ ys) 10 10 r s e p q (omega arith) (omega arith) in
    (same.0, behind 1 same.1)

pub dash_first : (bytes rest : List ℕ) → AreBytes bytes → slice_index (hex_or_dash bytes ++ rest) 0 < 103
unfolding hex_or_dash encode_with
dash_first [] rest all = omega arith
dash_first (b ∷ bytes) rest all =
    let small : b < 256 = byte_head b bytes all in
    let digit : b / 16 < 16 = omega arith in
    digit_low (slice_index lower_digits (b / 16)) (b / 16) (IsDigits-lower_digits (b / 16) digit) digit refl

-- the bytes of a tag
bytes_of_tag : (tag : ℕ) (one two : Bool) → nat_lt tag 256 ≡ one → nat_lt tag 65536 ≡ two → AreBytes (tag_bytes tag)
bytes_of_tag tag true two p q =
    let low : tag < 256 = grind (arith, nat_tests) in
    rw p (one_byte tag low)
bytes_of_tag tag false true p q =
    let low : tag < 65536 = grind (arith, nat_tests) in
    rw (p, q) (byte_cons (tag / 256) (tag % 256 ∷ []) (omega arith) (one_byte (tag % 256) (omega arith)))
bytes_of_tag tag false false p q =
    rw (p, q) (byte_cons (tag / 65536 % 256) (tag / 256 % 256 ∷ tag % 256 ∷ []) (omega arith) (byte_cons (tag / 256 % 256) (tag % 256 ∷ []) (omega arith) (one_byte (tag % 256) (omega arith))))

pub tag_is_bytes : (tag : ℕ) → AreBytes (tag_bytes tag)
tag_is_bytes tag = bytes_of_tag tag (nat_lt tag 256) (nat_lt tag 65536) refl refl

pub tag : (m n c d : ℕ) (r s : List ℕ) → encode_lower (tag_bytes m) ++ c ∷ r ≡ encode_lower (tag_bytes n) ++ d ∷ s → c < 48 → d < 48 → (tag_bytes m ≡ tag_bytes n) × (c ∷ r ≡ d ∷ s)
tag m n c d r s e hc hd = hex (tag_bytes m) (tag_bytes n) c d r s e (tag_is_bytes m) (tag_is_bytes n) hc hd

-- two bytes, and the five of the verification results
byte_at_byte : (k n : ℕ) → byte_at k n < 256
byte_at_byte zero n = omega arith
byte_at_byte (suc k) n = omega arith

are_bytes : (k n : ℕ) → AreBytes (bytes_high_first k n)
are_bytes zero n = no_bytes
are_bytes (suc k) n = byte_cons (byte_at k n) (bytes_high_first k n) (byte_at_byte k n) (are_bytes k n)

pub two_are_bytes : (n : ℕ) → AreBytes (two_bytes n)
two_are_bytes n = are_bytes 2 n

pub two : (m n c d : ℕ) (r s : List ℕ) → encode_lower (two_bytes m) ++ c ∷ r ≡ encode_lower (two_bytes n) ++ d ∷ s → c < 48 → d < 48 → (two_bytes m ≡ two_bytes n) × (c ∷ r ≡ d ∷ s)
two m n c d r s e hc hd = hex (two_bytes m) (two_bytes n) c d r s e (two_are_bytes m) (two_are_bytes n) hc hd

pub five_are_bytes : (n : ℕ) → AreBytes (tvr_bytes n)
five_are_bytes n = are_bytes 5 n

pub five : (m n c d : ℕ) (r s : List ℕ) → encode_lower (tvr_bytes m) ++ c ∷ r ≡ encode_lower (tvr_bytes n) ++ d ∷ s → c < 48 → d < 48 → (tvr_bytes m ≡ tvr_bytes n) × (c ∷ r ≡ d ∷ s)
five m n c d r s e hc hd = hex (tvr_bytes m) (tvr_bytes n) c d r s e (five_are_bytes m) (five_are_bytes n) hc hd

-- the digits of an account number
pub digits_high : (ds : List ℕ) → AtLeast 48 (digits_text ds)
digits_high [] = All-nil (λ (x : ℕ). 48 ≤ x)
digits_high (d ∷ ds) = high_cons 48 (d + 48) (digits_text ds) (omega arith) (digits_high ds)

pub pan_same : (xs ys : List ℕ) → digits_text xs ≡ digits_text ys → xs ≡ ys
pan_same [] [] e = refl
pan_same [] (y ∷ ys) e = cc
pan_same (x ∷ xs) [] e = cc
pan_same (x ∷ xs) (y ∷ ys) e =
    let first : x + 48 ≡ y + 48 = cc in
    let rest : digits_text xs ≡ digits_text ys = cc in
    let here : x ≡ y = omega arith in
    let there = pan_same xs ys rest in
    cc

pub pan_digits : (xs ys : List ℕ) (c d : ℕ) (r s : List ℕ) → digits_text xs ++ c ∷ r ≡ digits_text ys ++ d ∷ s → c < 48 → d < 48 → (xs ≡ ys) × (c ∷ r ≡ d ∷ s)
pan_digits xs ys c d r s e hc hd =
    let same = word 48 (digits_text xs) (digits_text ys) c d r s e (digits_high xs) (digits_high ys) hc hd in
    (pan_same xs ys same.0, same.1)

-- two texts whose first three characters differ
abbrev pub three : List ℕ → ℕ
three text = slice_index text 0 * 65536 + slice_index text 1 * 256 + slice_index text 2

pub apart : {s t : List ℕ} → s ≡ t → IsTrue (not (three s == three t)) → ⊥
apart {s} {t} e h =
    let same : three s ≡ three t = ap three e in
    grind (arith, nat_tests)
