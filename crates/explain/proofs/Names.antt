-- Bytes in hexadecimal, and what is made of them.
use Rattle.std.proofs.Common.{◌≡◌, ℕ, ◌*◌, ◌/◌, ◌<◌, ◌≤◌, ◌==◌, Bool, true, false, ◌&&◌, List, [], length, Option, Some, None, Result, Ok, Err, refl, sym, ap, ◌∙◌, arith}
use Rattle.std.specs.Prelude.{nat_le, IfSome, if◌then◌else◌}
use Rattle.std.specs.Result.{MatchResult}
use Rattle.std.proofs.lemmas.Bool.Decides.{nat_tests}
use Rattle.hex.proofs.HexLemmas.{decode_of-ok, decode_sized-twice}
use Rattle.hex.specs.Hex.{decode_of, decode_sized}
use Rattle.hex.specs.declared.error.FromHexError.{FromHexError}
use Rattle.value_words.specs.Plain.{binary_number}
use Rattle.explain.specs.Grammar.{bytes_in_hex, app_name_of, sized_number, account_number_of}

pub is_refused : (d : Result (List ℕ) FromHexError) (answer : Result Unit FromHexError) (fault : FromHexError) (out : List ℕ) → answer ≡ Err fault
    → MatchResult d (λ bytes. (answer ≡ Ok tt) × (out ≡ bytes)) (λ e. answer ≡ Err e) → (e : FromHexError) × (d ≡ Err e)
is_refused (Ok bytes) answer fault out is told = absurd (let clash : Ok tt ≡ Err fault = sym told.0 ∙ is in cc clash)
is_refused (Err e) answer fault out is told = (e, refl)

-- where there is room for what so many digits give, up to 16 bytes
pub none_read : (text : List ℕ) (room : ℕ) (fault : FromHexError) → (length text / 2 ≤ 16 → room ≡ length text / 2) → decode_sized text room ≡ Err fault
    → IfSome (bytes_in_hex text) (λ bytes. 16 < length bytes)
none_read text room fault fits fails = by (decode_of text) refl
  where
    has_room : (bytes : List ℕ) → decode_of text ≡ Ok bytes → length bytes ≤ 16 → ⊥
    has_room bytes is few =
        let twice : length text ≡ 2 * length bytes = (decode_of-ok text bytes is).2 in
        let whole : length text ≡ 2 * room = omega (arith, twice, fits (omega (arith, twice))) in
        cc (sym fails ∙ decode_sized-twice text room whole ∙ is)

    by : (found : Result (List ℕ) FromHexError) → decode_of text ≡ found → IfSome (bytes_in_hex text) (λ bytes. 16 < length bytes)
    by (Err other) is = rw is tt
    by (Ok bytes) is = rw is (omega (arith, has_room bytes is))

-- ---- names and codes

chosen : {A : Type 0} (test : Bool) (value : A) → test ≡ true → (if test then Some value else None) ≡ Some value
chosen test value holds = rw holds refl

refused : {A : Type 0} (test : Bool) (value : A) → test ≡ false → (if test then Some value else None) ≡ None
refused test value fails = rw fails refl

pub name_read : (text bytes : List ℕ) → bytes_in_hex text ≡ Some bytes → 5 ≤ length bytes → length bytes ≤ 16 → app_name_of text ≡ Some bytes
unfolding app_name_of
name_read text bytes is many few = rw is (chosen (nat_le 5 (length bytes) && nat_le (length bytes) 16) bytes (grind (arith, nat_tests)))

pub name_short : (text bytes : List ℕ) → bytes_in_hex text ≡ Some bytes → length bytes < 5 → app_name_of text ≡ None
unfolding app_name_of
name_short text bytes is few = rw is (refused (nat_le 5 (length bytes) && nat_le (length bytes) 16) bytes (grind (arith, nat_tests)))

pub no_name : (text : List ℕ) → IfSome (bytes_in_hex text) (λ bytes. 16 < length bytes) → app_name_of text ≡ None
unfolding app_name_of
no_name text many = by (bytes_in_hex text) refl many
  where
    by : (found : Option (List ℕ)) → bytes_in_hex text ≡ found → IfSome found (λ bytes. 16 < length bytes) → app_name_of text ≡ None
    by None is many = rw is refl
    by (Some bytes) is many = rw is (refused (nat_le 5 (length bytes) && nat_le (length bytes) 16) bytes (grind (arith, nat_tests)))

pub code_read : (count : ℕ) (text bytes : List ℕ) → bytes_in_hex text ≡ Some bytes → length bytes ≡ count → sized_number count text ≡ Some (binary_number bytes)
unfolding sized_number
code_read count text bytes is same = rw is (chosen (length bytes == count) (binary_number bytes) (grind (arith, nat_tests)))

pub code_other : (count : ℕ) (text bytes : List ℕ) → bytes_in_hex text ≡ Some bytes → (length bytes == count) ≡ false → sized_number count text ≡ None
unfolding sized_number
code_other count text bytes is other = rw is (refused (length bytes == count) (binary_number bytes) other)

pub no_code : (count : ℕ) (text : List ℕ) → count ≤ 16 → IfSome (bytes_in_hex text) (λ bytes. 16 < length bytes) → sized_number count text ≡ None
unfolding sized_number
no_code count text few many = by (bytes_in_hex text) refl many
  where
    by : (found : Option (List ℕ)) → bytes_in_hex text ≡ found → IfSome found (λ bytes. 16 < length bytes) → sized_number count text ≡ None
    by None is many = rw is refl
    by (Some bytes) is many = rw is (refused (length bytes == count) (binary_number bytes) (grind (arith, nat_tests)))

-- ---- account numbers

pub pan_read : (text bytes kept : List ℕ) → bytes_in_hex text ≡ Some bytes → length bytes ≤ 10 → kept ≡ (if nat_le (length bytes) 10 then bytes else [])
    → account_number_of text ≡ Some kept
unfolding account_number_of
pan_read text bytes kept is few kept_is =
    let fits : nat_le (length bytes) 10 ≡ true = grind (arith, nat_tests) in
    rw is (chosen (nat_le (length bytes) 10) bytes fits ∙ ap (λ (b : List ℕ). Some b) (sym (kept_is ∙ rw fits refl)))

pub pan_long : (text bytes : List ℕ) → bytes_in_hex text ≡ Some bytes → 10 < length bytes → account_number_of text ≡ None
unfolding account_number_of
pan_long text bytes is many = rw is (refused (nat_le (length bytes) 10) bytes (grind (arith, nat_tests)))

pub no_pan : (text : List ℕ) → IfSome (bytes_in_hex text) (λ bytes. 16 < length bytes) → account_number_of text ≡ None
unfolding account_number_of
no_pan text many = by (bytes_in_hex text) refl many
  where
    by : (found : Option (List ℕ)) → bytes_in_hex text ≡ found → IfSome found (λ bytes. 16 < length bytes) → account_number_of text ≡ None
    by None is many = rw is refl
    by (Some bytes) is many = rw is (refused (nat_le (length bytes) 10) bytes (grind (arith, nat_tests)))
