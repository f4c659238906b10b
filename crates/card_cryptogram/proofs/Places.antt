-- Where the data of an entry lies.
use Rattle.std.proofs.Common.{◌≡◌, ℕ, ◌+◌, ◌≤◌, List, [], ◌∷◌, Bool, true, false, Option, Some, None, refl, arith}
use Rattle.std.specs.Prelude.{◌==◌, ◌&&◌, if◌then◌else◌}
use Rattle.std.specs.Option.{option_map}
use Rattle.std.proofs.lemmas.Bool.Decides.{nat_tests}
use Rattle.object_lists.specs.DolEntries.{DolEntry, total_of, data_place}

place_later : (count more total : ℕ) (found : Option ℕ) (place : ℕ) → ((p : ℕ) → found ≡ Some p → p + count ≤ total) → option_map (λ p. more + p) found ≡ Some place → place + count ≤ more + total
place_later count more total None place within e = cc
place_later count more total (Some p) place within e =
    let same : more + p ≡ place = cc e in
    let rest : p + count ≤ total = within p refl in
    omega arith

-- the data of an entry lies within that of the whole list
pub place_within : (tag count : ℕ) (dol : List DolEntry) (place : ℕ) → data_place tag count dol ≡ Some place → place + count ≤ total_of dol
place_within tag count [] place e = cc
place_within tag count (entry ∷ entries) place e = by_test (entry.tag == tag) refl (entry.count == count) refl e (λ p there. place_within tag count entries p there)
  where
    by_test : (same_tag : Bool) → (entry.tag == tag) ≡ same_tag → (same_count : Bool) → (entry.count == count) ≡ same_count
        → (if same_tag && same_count then Some 0 else option_map (λ p. entry.count + p) (data_place tag count entries)) ≡ Some place
        → ((p : ℕ) → data_place tag count entries ≡ Some p → p + count ≤ total_of entries) → place + count ≤ entry.count + total_of entries
    by_test true tag_is true count_is e later = let first : 0 ≡ place = cc e in let count_same : entry.count ≡ count = grind (arith, nat_tests) in omega arith
    by_test true tag_is false count_is e later = place_later count entry.count (total_of entries) (data_place tag count entries) place later e
    by_test false tag_is same_count count_is e later = place_later count entry.count (total_of entries) (data_place tag count entries) place later e
