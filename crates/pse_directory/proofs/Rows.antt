-- The first row that supports a name, by its place.
use Rattle.std.proofs.Common.{◌≡◌, ℕ, ◌<◌, ◌||◌, zero, suc, Bool, true, false, nat_lt, nat_le, List, [], ◌∷◌, ◌++◌, length, get_or, Some, None, refl, sym, ap, ◌∙◌, arith, position, find, map, if◌then◌else◌}
use Rattle.std.specs.declared.option.Option.{Option}
use Rattle.std.specs.List.{list_any, position_or_len, slice_get}
use Rattle.std.specs.Str.{bytes_eq}
use Rattle.std.proofs.lemmas.Bool.Decides.{nat_tests}
use Rattle.std.proofs.lemmas.List.{length-map, map-append}
use Rattle.std.proofs.lemmas.List.Folds.{find_at}
use Rattle.app_select.specs.Candidates.{CandidateData, is_candidate_named}
use Rattle.app_select.specs.Named.{all_named, named_by, no_row}
use Rattle.app_select.specs.Said.{is_supported}
use Rattle.app_select.specs.declared.naming.Found.{Found}
use Rattle.emv_dict.specs.declared.purchase.AidRow.{AidRow}
use Rattle.pse_directory.specs.Entries.{EntryData}
use Rattle.pse_directory.specs.Keeping.{with_listed}

slice_get-there : (rows : List AidRow) (place : ℕ) → place < length rows → slice_get rows place ≡ Some (get_or rows place no_row)
slice_get-there [] place there = absurd (omega (arith, there))
slice_get-there (row ∷ rows) zero there = refl
slice_get-there (row ∷ rows) (suc place) there = slice_get-there rows place (omega (arith, there))

slice_get-behind : (rows : List AidRow) (place : ℕ) → (place < length rows → ⊥) → slice_get rows place ≡ None
slice_get-behind [] place behind = refl
slice_get-behind (row ∷ rows) zero behind = absurd (behind (omega arith))
slice_get-behind (row ∷ rows) (suc place) behind = slice_get-behind rows place (λ there. behind (omega (arith, there)))

-- what `position` says of `find`
abbrev pub FindsAt : (AidRow → Bool) → List AidRow → Option ℕ → Type 0
FindsAt test rows None = find test rows ≡ None
FindsAt test rows (Some place) = (place < length rows) × (find test rows ≡ Some (get_or rows place no_row))

finds_by : (test : AidRow → Bool) (rows : List AidRow) (place : ℕ) (is_there : Bool) → nat_lt place (length rows) ≡ is_there → find test rows ≡ slice_get rows place
    → FindsAt test rows (if is_there then Some place else None)
finds_by test rows place true is found =
    let there : place < length rows = grind (arith, nat_tests) in
    (there, found ∙ slice_get-there rows place there)
finds_by test rows place false is found = found ∙ slice_get-behind rows place (λ there. absurd (grind (arith, nat_tests)))

pub finds_at : (test : AidRow → Bool) (rows : List AidRow) → FindsAt test rows (position test rows)
finds_at test rows = finds_by test rows (position_or_len test rows) (nat_lt (position_or_len test rows) (length rows)) refl (find_at test rows)

pub any_named : (rows : List AidRow) (name : List ℕ) (found : List Found) → list_any (λ other. bytes_eq other.name name) found ≡ list_any (is_candidate_named name) (all_named rows found)
any_named rows name [] = refl
any_named rows name (one ∷ found) = ap (λ (b : Bool). bytes_eq one.name name || b) (any_named rows name found)

out_named : (rows : List AidRow) (name : List ℕ) (found : List Found)
    → (list_any (is_candidate_named name) (all_named rows found) || nat_le 16 (length (all_named rows found))) ≡ (list_any (λ other. bytes_eq other.name name) found || nat_le 16 (length found))
out_named rows name found = rw (any_named rows name found, length-map) refl

module _ (rows : List AidRow) (entry : EntryData) (found : List Found) where
  -- the terminal supports no such name
  pub not_listed : None ≡ position (λ row. is_supported row.name row.partial entry.name) rows → with_listed rows (all_named rows found) entry ≡ all_named rows found
  not_listed is =
      let none : FindsAt (λ row. is_supported row.name row.partial entry.name) rows None = rw (sym is) at (finds_at (λ row. is_supported row.name row.partial entry.name) rows) in
      rw none refl

  -- one of its name is there, or there is no room
  pub left_out : (place : ℕ) → Some place ≡ position (λ row. is_supported row.name row.partial entry.name) rows
      → (list_any (λ other. bytes_eq other.name entry.name) found || nat_le 16 (length found)) ≡ true → with_listed rows (all_named rows found) entry ≡ all_named rows found
  left_out place is out =
      let at : FindsAt (λ row. is_supported row.name row.partial entry.name) rows (Some place) = rw (sym is) at (finds_at (λ row. is_supported row.name row.partial entry.name) rows) in
      let test = out_named rows entry.name found ∙ out in
      rw (at.1, test) refl

  pub row_there : (place : ℕ) → Some place ≡ position (λ row. is_supported row.name row.partial entry.name) rows → place < length rows
  row_there place is =
      let at : FindsAt (λ row. is_supported row.name row.partial entry.name) rows (Some place) = rw (sym is) at (finds_at (λ row. is_supported row.name row.partial entry.name) rows) in
      at.0

  -- it is taken
  pub taken : (place : ℕ) (more : List Found) → Some place ≡ position (λ row. is_supported row.name row.partial entry.name) rows
      → (list_any (λ other. bytes_eq other.name entry.name) found || nat_le 16 (length found)) ≡ false
      → more ≡ found ++ record { name = entry.name; priority = entry.priority; aid = place } ∷ []
      → all_named rows more ≡ with_listed rows (all_named rows found) entry
  taken place more is out pushed =
      let at : FindsAt (λ row. is_supported row.name row.partial entry.name) rows (Some place) = rw (sym is) at (finds_at (λ row. is_supported row.name row.partial entry.name) rows) in
      let test = out_named rows entry.name found ∙ out in
      rw (pushed, at.1, test) (map-append (named_by rows) found (record { name = entry.name; priority = entry.priority; aid = place } ∷ []))
