-- The first word of a text, and the number that it writes.
use Rattle.std.proofs.Common.{◌≡◌, ℕ, ◌+◌, ◌-◌, ◌*◌, ◌/◌, ◌%◌, ◌^◌, ◌<◌, ◌≤◌, ◌==◌, Bool, true, false, List, [], ◌∷◌, ◌++◌, length, drop, fold, refl, ap, ap₂, ◌∙◌, arith, append-nil, length-append, Some, decimal, nat_lt, nat_le}
use Rattle.std.specs.Prelude.{⊤}
use Rattle.std.specs.List.{list_any, list_all, position_or_len}
use Rattle.std.proofs.lemmas.Bool.{or_parts, or_from}
use Rattle.std.proofs.lemmas.Bool.Decides.{nat_tests}
use Rattle.std.proofs.lemmas.Fmt.{decimal_by_steps, decimal_nonempty, length-decimal-le}
use Rattle.std.proofs.Math.Seq.{take-append_seam, drop-append-add}
use Rattle.std.proofs.lemmas.List.Folds.{list_all-append}
use Rattle.std.proofs.lemmas.List.Sums.{fold-append}
use Rattle.ber_tlv.specs.Item.{AreBytes}
use Rattle.ber_tlv.specs.Written.{tag_bytes}
use Rattle.emv_dict.specs.declared.ending.Step.{Step}
use Rattle.emv_dict.specs.declared.ending.Step.TheVariants as step
use Rattle.hex.specs.Hex.{encode_lower}
use Rattle.report_lines.specs.Parts.{digits_number, is_ascii_digit, split_at, split_word, decimal_number}
use Rattle.report_text.specs.Pieces.{hex_or_dash, two_bytes}
use Rattle.report_text.specs.Told.{IsCardName}
use Rattle.report_text.specs.Words.{side_word, step_word}
use Rattle.report_text.proofs.Fronts.{AtLeast, high_head, high_tail, decimal_high, hex_high, tag_is_bytes, two_are_bytes}
use Rattle.report_text.proofs.Marks.{name_high}

-- a text without this character
abbrev pub IsWithout : ℕ → List ℕ → Type 0
IsWithout mark text = list_any (λ c. c == mark) text ≡ false

abbrev is_blank : ℕ → Bool
is_blank c = c == 32

-- a text without a blank
abbrev pub IsOneWord : List ℕ → Type 0
IsOneWord text = IsWithout 32 text

-- what stands behind a word: nothing, or a blank and more
abbrev pub IsBehindWord : List ℕ → Type 0
IsBehindWord [] = ⊤
IsBehindWord (c ∷ rest) = c ≡ 32

abbrev pub parts : List ℕ → List ℕ → List ℕ × List ℕ
parts word rest = (word, rest)

word_ends : (word rest : List ℕ) → IsOneWord word → IsBehindWord rest → position_or_len is_blank (word ++ rest) ≡ length word
word_ends [] [] one is = refl
word_ends [] (c ∷ rest) one is =
    let blank : c ≡ 32 = is in
    rw blank refl
word_ends (x ∷ word) rest one is =
    let apart = or_parts (x == 32) (list_any is_blank word) one in
    let later = word_ends word rest apart.1 is in
    rw apart.0 (omega arith)

-- a word is split from what stands behind it
pub split : (word rest : List ℕ) → IsOneWord word → IsBehindWord rest → split_word (word ++ rest) ≡ parts word (drop 1 rest)
unfolding split_at
split word [] one is =
    let ends = word_ends word [] one is in
    let past : nat_lt (length word) (length (word ++ [])) ≡ false = grind (arith, nat_tests, length-append word []) in
    rw (ends, past) (ap (λ (t : List ℕ). parts t []) (append-nil word))
split word (c ∷ rest) one is =
    let ends = word_ends word (c ∷ rest) one is in
    let within : nat_lt (length word) (length (word ++ c ∷ rest)) ≡ true = grind (arith, nat_tests, length-append word (c ∷ rest)) in
    rw (ends, within) (ap₂ parts (take-append_seam word (c ∷ rest)) (drop-append-add word (c ∷ rest) 1))

-- ---- words without blanks

pub without_low : (mark bound : ℕ) (word : List ℕ) → mark < bound → AtLeast bound word → IsWithout mark word
without_low mark bound [] low all = refl
without_low mark bound (c ∷ word) low all =
    let high : bound ≤ c = high_head bound c word all in
    let other : (c == mark) ≡ false = grind (arith, nat_tests) in
    or_from (c == mark) (list_any (λ x. x == mark) word) other (without_low mark bound word low (high_tail bound c word all))

one_high : (word : List ℕ) → AtLeast 48 word → IsOneWord word
one_high word all = without_low 32 48 word (omega arith) all

pub one_name : (name : List ℕ) → IsCardName name → IsOneWord name
one_name name all = without_low 32 33 name (omega arith) (name_high name all)

pub one_decimal : (n : ℕ) → IsOneWord (decimal n)
one_decimal n = one_high (decimal n) (decimal_high n)

pub one_hex : (bytes : List ℕ) → AreBytes bytes → IsOneWord (encode_lower bytes)
one_hex bytes all = one_high (encode_lower bytes) (hex_high bytes all)

pub one_tag : (tag : ℕ) → IsOneWord (encode_lower (tag_bytes tag))
one_tag tag = one_hex (tag_bytes tag) (tag_is_bytes tag)

pub one_two : (n : ℕ) → IsOneWord (encode_lower (two_bytes n))
one_two n = one_hex (two_bytes n) (two_are_bytes n)

pub one_dash : (bytes : List ℕ) → AreBytes bytes → IsOneWord (hex_or_dash bytes)
unfolding hex_or_dash
one_dash [] all = refl
one_dash (b ∷ bytes) all = one_hex (b ∷ bytes) all

pub one_step : (at : Step) → IsOneWord (step_word at)
unfolding step_word
one_step step.Power = refl
one_step step.Select = refl
one_step step.Initiate = refl
one_step step.Read = refl
one_step step.Verify = refl
one_step step.Risk = refl
one_step step.First = refl
one_step step.Authenticate = refl
one_step step.Second = refl
one_step step.Script = refl

pub one_side : (online : Bool) → IsOneWord (side_word online)
one_side true = refl
one_side false = refl

-- ---- numbers

abbrev digit_behind : ℕ → ℕ → ℕ
digit_behind n digit = n * 10 + (digit - 48)

-- digits that write this number
abbrev Writes : ℕ → List ℕ → Type 0
Writes n digits = (fold digit_behind 0 digits ≡ n) × (list_all is_ascii_digit digits ≡ true)

one_digit : (n : ℕ) → n < 10 → Writes n ((48 + n) ∷ [])
one_digit n small = (omega arith, grind (arith, nat_tests))

digit_more : (n : ℕ) (digits : List ℕ) → 10 ≤ n → Writes (n / 10) digits → Writes n (digits ++ (48 + n % 10) ∷ [])
digit_more n digits many written =
    let low : n % 10 < 10 = omega arith in
    let last : list_all is_ascii_digit ((48 + n % 10) ∷ []) ≡ true = grind (arith, nat_tests) in
    let before : fold digit_behind 0 digits ≡ n / 10 = written.0 in
    let next : fold digit_behind (fold digit_behind 0 digits) ((48 + n % 10) ∷ []) ≡ n = omega arith in (
      fold-append digit_behind 0 digits ((48 + n % 10) ∷ []) ∙ next,
      list_all-append is_ascii_digit digits ((48 + n % 10) ∷ []) ∙ rw written.1 last,
    )

digits_written : (n : ℕ) → n < 2 ^ 64 → Writes n (decimal n)
digits_written = decimal_by_steps Writes one_digit digit_more

-- the number that its own digits write
pub number_back : (n : ℕ) → n < 2 ^ 32 → decimal_number (decimal n) ≡ Some n
unfolding decimal_number
number_back n small =
    let written = digits_written n (omega arith) in
    let value : fold digit_behind 0 (decimal n) ≡ n = written.0 in
    let whole : digits_number (decimal n) ≡ n = omega arith in
    let more : 0 < length (decimal n) = decimal_nonempty n (omega arith) in
    let short : length (decimal n) ≤ 10 = length-decimal-le 10 n (omega arith) (omega arith) (omega arith) in
    let some : (length (decimal n) == 0) ≡ false = grind (arith, nat_tests) in
    let few : nat_le (length (decimal n)) 18 ≡ true = grind (arith, nat_tests) in
    rw (some, few, written.1) (ap Some whole)

pub decimal_more : (n : ℕ) → n < 2 ^ 32 → 0 < length (decimal n)
decimal_more n small = decimal_nonempty n (omega arith)
