-- A number that is read digit by digit, up to a limit.
use Rattle.std.proofs.Common.{◌≡◌, ℕ, ◌+◌, ◌-◌, ◌*◌, ◌≤◌, Bool, true, false, ◌&&◌, nat_le, cond, List, [], ◌∷◌, Option, Some, None, refl, sym, ◌∙◌, ap, arith}
use Rattle.std.specs.Char.{is_ascii_digit}
use Rattle.std.specs.Str.{all_ascii_digits}
use Rattle.std.specs.Str.Parse.{digits_value}
use Rattle.std.proofs.Common.{rules}
use Rattle.std.proofs.lemmas.Bool.Decides.{nat_tests}
use Rattle.std.proofs.lemmas.Str.Parse.{IsNumeralModel, numerals_by_fold}
use Rattle.script_words.specs.Numeral.{limited, number_up_to}

-- the number that the characters write behind `number`
abbrev pub value_behind : ℕ → List ℕ → ℕ
value_behind number [] = number
value_behind number (c ∷ cs) = value_behind (number * 10 + (c - 48)) cs

-- the same, given up at the first that is no digit or that passes the limit
abbrev pub read_on : ℕ → ℕ → List ℕ → Option ℕ
read_on most number [] = Some number
read_on most number (c ∷ cs) =
    cond (is_ascii_digit c) (cond (nat_le (number * 10 + (c - 48)) most) (read_on most (number * 10 + (c - 48)) cs) None) None

-- what the whole text gives
abbrev pub read_whole : ℕ → ℕ → List ℕ → Option ℕ
read_whole most number cs = cond (all_ascii_digits cs) (limited most (value_behind number cs)) None

-- digits only make a number greater
grows : (number : ℕ) (cs : List ℕ) → number ≤ value_behind number cs
grows number [] = omega arith
grows number (c ∷ cs) = let rest : number * 10 + (c - 48) ≤ value_behind (number * 10 + (c - 48)) cs = grows (number * 10 + (c - 48)) cs in omega arith

too_great : (most number : ℕ) (cs : List ℕ) → nat_le number most ≡ false → limited most (value_behind number cs) ≡ None
too_great most number cs above =
    let more : number ≤ value_behind number cs = grows number cs in
    let past : nat_le (value_behind number cs) most ≡ false = grind (arith, nat_tests) in
    rw past refl

same_none : (p : Bool) (x : Option ℕ) → x ≡ None → cond p x None ≡ None
same_none true x e = e
same_none false x e = refl

on_limit : (most next : ℕ) (cs : List ℕ) (p : Bool) → nat_le next most ≡ p
    → (nat_le next most ≡ true → read_on most next cs ≡ read_whole most next cs)
    → cond p (read_on most next cs) None ≡ read_whole most next cs
on_limit most next cs true fits rest = rest fits
on_limit most next cs false above rest = sym (same_none (all_ascii_digits cs) _ (too_great most next cs above))

on_digit : (most number c : ℕ) (cs : List ℕ) (p : Bool)
    → (nat_le (number * 10 + (c - 48)) most ≡ true → read_on most (number * 10 + (c - 48)) cs ≡ read_whole most (number * 10 + (c - 48)) cs)
    → cond p (cond (nat_le (number * 10 + (c - 48)) most) (read_on most (number * 10 + (c - 48)) cs) None) None
    ≡ cond (p && all_ascii_digits cs) (limited most (value_behind (number * 10 + (c - 48)) cs)) None
on_digit most number c cs true rest = on_limit most (number * 10 + (c - 48)) cs _ refl rest
on_digit most number c cs false rest = refl

fits_within : (n most : ℕ) → nat_le n most ≡ true → n ≤ most
fits_within n most fits = grind (arith, nat_tests)

read_on_is_whole : (most number : ℕ) (cs : List ℕ) → number ≤ most → read_on most number cs ≡ read_whole most number cs
read_on_is_whole most number [] below = let fits : nat_le number most ≡ true = grind (arith, nat_tests) in rw fits refl
read_on_is_whole most number (c ∷ cs) below =
    on_digit most number c cs (is_ascii_digit c) (λ fits. read_on_is_whole most (number * 10 + (c - 48)) cs (fits_within _ _ fits))

-- these are std's digits and their value
pub own : IsNumeralModel (λ cs. all_ascii_digits cs ≡ true) (value_behind 0)
own = numerals_by_fold _ (search rules) value_behind (search rules)

on_value : (most : ℕ) (cs : List ℕ) (p : Bool) → all_ascii_digits cs ≡ p → cond p (limited most (value_behind 0 cs)) None ≡ cond p (limited most (digits_value 10 cs)) None
on_value most cs true digits = ap (limited most) (own.same cs (own.to cs digits))
on_value most cs false digits = refl

-- read digit by digit, a text gives its number
pub read_on_is : (most : ℕ) (cs : List ℕ) → read_on most 0 cs ≡ number_up_to most cs
read_on_is most cs = read_on_is_whole most 0 cs (omega arith) ∙ on_value most cs (all_ascii_digits cs) refl
