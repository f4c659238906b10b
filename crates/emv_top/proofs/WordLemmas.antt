-- Four words or more ask for nothing; what the parsed number of a word is.
use Rattle.std.proofs.Common.{◌≡◌, ◌≢◌, ℕ, ◌≤◌, ◌<◌, nat_le, ◌==◌, ◌&&◌, not, List, [], ◌∷◌, Bool, true, false, Some, None, Ok, Err, refl, sym, ap, ◌∙◌, subst, length, slice_index, if◌then◌else◌, arith}
use Rattle.std.specs.Prelude.{codes}
use Rattle.std.specs.Str.{all_ascii_digits, bytes_eq}
use Rattle.std.specs.Str.Parse.{digits_value, ParsesUnsigned}
use Rattle.std.proofs.lemmas.Bool.Decides.{nat_tests}
use Rattle.std.proofs.lemmas.Str.Parse.{IsNumeralModel, numerals_by_value, parse_plain, tells_all_ascii_digits}
use Rattle.emv_top.specs.Words.{is_count, named_subcommand, spelled_count, subcommand_of, without_dashes}

four : (a b c d : List ℕ) (words : List (List ℕ)) → named_subcommand (without_dashes (a ∷ b ∷ c ∷ d ∷ words)) ≡ None
four a b c d words = by_first (bytes_eq a (codes "--")) refl
  where
    by_third : (t : Bool) → bytes_eq c (codes "--") ≡ t → named_subcommand (a ∷ b ∷ without_dashes (c ∷ d ∷ words)) ≡ None
    by_third true third = rw third refl
    by_third false third = rw third refl

    by_second : (s : Bool) → bytes_eq b (codes "--") ≡ s → named_subcommand (a ∷ without_dashes (b ∷ c ∷ d ∷ words)) ≡ None
    by_second true second = rw second refl
    by_second false second = rw second (by_third (bytes_eq c (codes "--")) refl)

    by_first : (f : Bool) → bytes_eq a (codes "--") ≡ f → named_subcommand (without_dashes (a ∷ b ∷ c ∷ d ∷ words)) ≡ None
    by_first true first = rw first refl
    by_first false first = rw first (by_second (bytes_eq b (codes "--")) refl)

pub too_many : (words : List (List ℕ)) → 4 ≤ length words → subcommand_of words ≡ None
unfolding subcommand_of
too_many [] many = absurd (omega arith)
too_many (a ∷ []) many = absurd (omega arith)
too_many (a ∷ b ∷ []) many = absurd (omega arith)
too_many (a ∷ b ∷ c ∷ []) many = absurd (omega arith)
too_many (a ∷ b ∷ c ∷ d ∷ words) many = four a b c d words

own : IsNumeralModel (λ ds. all_ascii_digits ds ≡ true) (digits_value 10)
own = numerals_by_value (λ ds. all_ascii_digits ds ≡ true) tells_all_ascii_digits

-- a word that begins with no plus sign and no zero
module _ (word : List ℕ) (plain : (not (slice_index word 0 == 43) && not (slice_index word 0 == 48)) ≡ true) where
  no_plus : slice_index word 0 ≢ 43
  no_plus = grind (arith, nat_tests)

  no_zero : not (slice_index word 0 == 48) ≡ true
  no_zero = grind (arith, nat_tests)

  pub parsed_count : (n : ℕ) → ParsesUnsigned {E = ℕ} 32 10 word (Ok n) → 1 ≤ n → n ≤ 10000 → Some n ≡ spelled_count word
  parsed_count n parses least most =
      let digits : all_ascii_digits word ≡ true = (parse_plain own {E = ℕ} 32 word (Ok n) parses no_plus).0.0 in
      let same : n ≡ digits_value 10 word = (parse_plain own {E = ℕ} 32 word (Ok n) parses no_plus).1 in
      let least_too : nat_le 1 (digits_value 10 word) ≡ true = subst (λ (m : ℕ). nat_le 1 m ≡ true) same (grind (arith, nat_tests)) in
      let most_too : nat_le (digits_value 10 word) 10000 ≡ true = subst (λ (m : ℕ). nat_le m 10000 ≡ true) same (grind (arith, nat_tests)) in
      ap (λ (m : ℕ). Some m) same ∙ sym (rw digits (rw no_zero (rw least_too (rw most_too refl))))

  some_digits : is_count word ≡ true → 0 < length word
  some_digits is = by word refl
    where
      by : (w : List ℕ) → word ≡ w → 0 < length word
      by [] same = absurd (let none : is_count [] ≡ true = subst (λ (x : List ℕ). is_count x ≡ true) same is in cc)
      by (c ∷ cs) same = subst (λ (x : List ℕ). 0 < length x) (sym same) (omega arith)

  pub unparsed : (E : Type 0) (e : E) → ParsesUnsigned {E = E} 32 10 word (Err e) → None ≡ spelled_count word
  unparsed E e parses = by (is_count word) refl
    where
      by : (b : Bool) → is_count word ≡ b → None ≡ (if b then Some (digits_value 10 word) else None)
      by false is = refl
      by true is =
          let digits : all_ascii_digits word ≡ true = grind (arith, nat_tests) in
          let most : digits_value 10 word ≤ 10000 = grind (arith, nat_tests) in
          absurd (parse_plain own {E = E} 32 word (Err e) parses no_plus (digits, some_digits is, omega (arith, most)))
