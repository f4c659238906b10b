-- An object that is put before those of greater tags, or behind those of lesser ones.
use Rattle.std.proofs.Common.{◌≡◌, ℕ, ◌+◌, ◌*◌, ◌<◌, ◌≤◌, List, [], ◌∷◌, ◌++◌, length, true, false, None, Ok, refl, ap, arith}
use Rattle.std.specs.Prelude.{◌==◌, nat_lt, nat_le}
use Rattle.std.specs.List.{AllByRecursion}
use Rattle.std.proofs.lemmas.Bool.Decides.{nat_tests}
use Rattle.std.proofs.lemmas.List.Sums.{sum_by-cons}
use Rattle.env_map.specs.Entries.{Entries, value_of, with_object, size_of_values}
use Rattle.env_map.specs.Put.{put_of}

-- each tag is above this one
abbrev AllAbove : ℕ → Entries → Type 0
AllAbove tag entries = AllByRecursion (λ entry. tag < entry.0) entries

absent_below : (tag : ℕ) (entries : Entries) → AllAbove tag entries → value_of tag entries ≡ None
absent_below tag [] above = refl
absent_below tag (entry ∷ entries) above =
    let other : (entry.0 == tag) ≡ false = (let less = above.0 in grind (arith, nat_tests)) in
    rw other (absent_below tag entries above.1)

put_below : (tag : ℕ) (value : List ℕ) (entries : Entries) → AllAbove tag entries → with_object tag value entries ≡ (tag, value) ∷ entries
put_below tag value [] above = refl
put_below tag value (entry ∷ entries) above =
    let under : nat_lt tag entry.0 ≡ true = (let less = above.0 in grind (arith, nat_tests)) in
    rw under refl

size_small : (entries : Entries) → AllByRecursion (λ entry. length entry.1 ≤ 256) entries → size_of_values entries ≤ 256 * length entries
size_small [] short = omega arith
size_small (entry ∷ entries) short =
    let rest : size_of_values entries ≤ 256 * length entries = size_small entries short.1 in
    let first : length entry.1 ≤ 256 = short.0 in
    let sum : size_of_values (entry ∷ entries) ≡ length entry.1 + size_of_values entries = sum_by-cons (λ (e : ℕ × List ℕ). length e.1) entry entries in
    omega arith

pub put_first : (tag : ℕ) (value : List ℕ) (entries : Entries) → AllByRecursion (λ entry. tag < entry.0) entries → length entries ≤ 60 →
    AllByRecursion (λ entry. length entry.1 ≤ 256) entries → length value ≤ 256 → put_of (record { 0 = tag }) value entries ≡ Ok ((tag, value) ∷ entries)
put_first tag value entries above few all_short short =
    let size : size_of_values entries ≤ 256 * length entries = size_small entries all_short in
    let many : nat_le 512 (length entries) ≡ false = grind (arith, nat_tests) in
    let big : nat_lt 16384 (size_of_values entries + length value) ≡ false = grind (arith, nat_tests) in
    rw (absent_below tag entries above, many, big) (ap (λ (es : Entries). Ok es) (put_below tag value entries above))

-- each tag is below this one
abbrev AllBelow : ℕ → Entries → Type 0
AllBelow tag entries = AllByRecursion (λ entry. entry.0 < tag) entries

absent_above : (tag : ℕ) (entries : Entries) → AllBelow tag entries → value_of tag entries ≡ None
absent_above tag [] below = refl
absent_above tag (entry ∷ entries) below =
    let other : (entry.0 == tag) ≡ false = (let less = below.0 in grind (arith, nat_tests)) in
    rw other (absent_above tag entries below.1)

put_above : (tag : ℕ) (value : List ℕ) (entries : Entries) → AllBelow tag entries → with_object tag value entries ≡ entries ++ (tag, value) ∷ []
put_above tag value [] below = refl
put_above tag value (entry ∷ entries) below =
    let over : nat_lt tag entry.0 ≡ false = (let less = below.0 in grind (arith, nat_tests)) in
    rw over (ap (λ (es : Entries). entry ∷ es) (put_above tag value entries below.1))

pub put_last : (tag : ℕ) (value : List ℕ) (entries : Entries) → AllByRecursion (λ entry. entry.0 < tag) entries → length entries ≤ 60 →
    AllByRecursion (λ entry. length entry.1 ≤ 256) entries → length value ≤ 256 → put_of (record { 0 = tag }) value entries ≡ Ok (entries ++ (tag, value) ∷ [])
put_last tag value entries below few all_short short =
    let size : size_of_values entries ≤ 256 * length entries = size_small entries all_short in
    let many : nat_le 512 (length entries) ≡ false = grind (arith, nat_tests) in
    let big : nat_lt 16384 (size_of_values entries + length value) ≡ false = grind (arith, nat_tests) in
    rw (absent_above tag entries below, many, big) (ap (λ (es : Entries). Ok es) (put_above tag value entries below))
