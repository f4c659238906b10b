-- The names that the directory and the list find are those of the applications that some row supports.
use Rattle.std.proofs.Common.{◌≡◌, ℕ, ◌≤◌, ◌&&◌, ◌||◌, Bool, true, false, List, [], ◌∷◌, ◌++◌, length, Option, Some, None, option_map, refl, sym, ap, ◌∙◌, arith, if◌then◌else◌}
use Rattle.std.specs.Prelude.{is_some}
use Rattle.std.specs.List.{list_any, find, cons_option}
use Rattle.std.specs.Str.{bytes_eq}
use Rattle.std.proofs.lemmas.List.{take_all}
use Rattle.std.proofs.lemmas.List.Folds.{list_any-append}
use Rattle.app_select.specs.Candidates.{CandidateData, is_candidate_named, firsts_behind, firsts}
use Rattle.app_select.specs.Said.{is_supported}
use Rattle.card_files.specs.Views.{AppData}
use Rattle.dialogue_laws.proofs.Directing.{few_firsts}
use Rattle.dialogue_laws.proofs.Finding.{shown_to, listed_in}
use Rattle.dialogue_laws.proofs.EntriesFound.{directed_in}
use Rattle.dialogue_laws.specs.Agreeing.{HaveSameNames}
use Rattle.emv_dict.specs.declared.purchase.AidRow.{AidRow}
use Rattle.pse_directory.specs.Directory.{kept_candidates}

abbrev pub supports : AppData → AidRow → Bool
supports a row = is_supported row.name row.partial a.name

-- the row supports an application of this name
abbrev hits : List ℕ → AidRow → AppData → Bool
hits name row a = supports a row && bytes_eq a.name name

find_some : (test : AidRow → Bool) (rows : List AidRow) → is_some (find test rows) ≡ list_any test rows
find_some test [] = refl
find_some test (row ∷ rows) = by (test row) (find_some test rows)
  where
    by : (passes : Bool) → is_some (find test rows) ≡ list_any test rows → is_some (if passes then Some row else find test rows) ≡ (passes || list_any test rows)
    by true later = refl
    by false later = later

module _ (name : List ℕ) where
  entry_named : (a : AppData) (o : Option AidRow) (later : List CandidateData)
      → list_any (is_candidate_named name) (cons_option (option_map (λ row. record { row = row; name = a.name; priority = a.priority }) o) later)
      ≡ ((is_some o && bytes_eq a.name name) || list_any (is_candidate_named name) later)
  entry_named a None later = refl
  entry_named a (Some row) later = refl

  directed_named : (rows : List AidRow) (apps : List AppData) → list_any (is_candidate_named name) (directed_in rows apps) ≡ list_any (λ a. list_any (supports a) rows && bytes_eq a.name name) apps
  directed_named rows [] = refl
  directed_named rows (a ∷ apps) =
      entry_named a (find (supports a) rows) (directed_in rows apps)
      ∙ ap (λ (some : Bool). (some && bytes_eq a.name name) || list_any (is_candidate_named name) (directed_in rows apps)) (find_some (supports a) rows)
      ∙ ap (λ (later : Bool). (list_any (supports a) rows && bytes_eq a.name name) || later) (directed_named rows apps)

  row_named : (row : AidRow) (a : AppData) (test : Bool) (later : List CandidateData)
      → list_any (is_candidate_named name) (cons_option (if test then Some (record { row = row; name = a.name; priority = a.priority }) else None) later)
      ≡ ((test && bytes_eq a.name name) || list_any (is_candidate_named name) later)
  row_named row a true later = refl
  row_named row a false later = refl

  shown_named : (row : AidRow) (apps : List AppData) → list_any (is_candidate_named name) (shown_to apps row) ≡ list_any (hits name row) apps
  shown_named row [] = refl
  shown_named row (a ∷ apps) =
      row_named row a (supports a row) (shown_to apps row) ∙ ap (λ (later : Bool). hits name row a || later) (shown_named row apps)

  listed_named : (rows : List AidRow) (apps : List AppData) → list_any (is_candidate_named name) (listed_in rows apps) ≡ list_any (λ row. list_any (hits name row) apps) rows
  listed_named [] apps = refl
  listed_named (row ∷ rows) apps =
      list_any-append (is_candidate_named name) (shown_to apps row) (listed_in rows apps)
      ∙ ap (λ (this : Bool). this || list_any (is_candidate_named name) (listed_in rows apps)) (shown_named row apps)
      ∙ ap (λ (later : Bool). list_any (hits name row) apps || later) (listed_named rows apps)

  -- row by row, or application by application
  none_named : (apps : List AppData) → false ≡ list_any {X = AppData} (λ a. false && bytes_eq a.name name) apps
  none_named [] = refl
  none_named (a ∷ apps) = none_named apps

  four : (one two same here there : Bool) → (((one && same) || here) || ((two && same) || there)) ≡ (((one || two) && same) || (here || there))
  four true two true here there = refl
  four true true false here there = refl
  four true false false here there = refl
  four false true true true there = refl
  four false true true false there = refl
  four false true false here there = refl
  four false false same here there = refl

  together : (one two : AppData → Bool) (apps : List AppData)
      → (list_any (λ a. one a && bytes_eq a.name name) apps || list_any (λ a. two a && bytes_eq a.name name) apps) ≡ list_any (λ a. (one a || two a) && bytes_eq a.name name) apps
  together one two [] = refl
  together one two (a ∷ apps) =
      four (one a) (two a) (bytes_eq a.name name) (list_any (λ a. one a && bytes_eq a.name name) apps) (list_any (λ a. two a && bytes_eq a.name name) apps)
      ∙ ap (λ (later : Bool). ((one a || two a) && bytes_eq a.name name) || later) (together one two apps)

  swapped : (rows : List AidRow) (apps : List AppData) → list_any (λ row. list_any (hits name row) apps) rows ≡ list_any (λ a. list_any (supports a) rows && bytes_eq a.name name) apps
  swapped [] apps = none_named apps
  swapped (row ∷ rows) apps =
      ap (λ (later : Bool). list_any (hits name row) apps || later) (swapped rows apps)
      ∙ together (λ a. supports a row) (λ a. list_any (supports a) rows) apps

pub found_alike : (rows : List AidRow) (apps : List AppData) → HaveSameNames (directed_in rows apps) (listed_in rows apps)
found_alike rows apps name = directed_named name rows apps ∙ sym (listed_named name rows apps ∙ swapped name rows apps)

-- no more than sixteen are kept, which a card's applications don't reach
few_directed : (rows : List AidRow) (apps : List AppData) → length (directed_in rows apps) ≤ length apps
few_directed rows [] = omega arith
few_directed rows (a ∷ apps) = by (find (supports a) rows) (few_directed rows apps)
  where
    by : (o : Option AidRow) → length (directed_in rows apps) ≤ length apps
        → length (cons_option (option_map (λ row. record { row = row; name = a.name; priority = a.priority }) o) (directed_in rows apps)) ≤ length (a ∷ apps)
    by None few = omega arith
    by (Some row) few = omega arith

pub all_kept : (rows : List AidRow) (apps : List AppData) → length apps ≤ 4 → kept_candidates (directed_in rows apps) ≡ firsts (directed_in rows apps)
all_kept rows apps few =
    let found = few_directed rows apps in
    let first = few_firsts [] (directed_in rows apps) in
    take_all 16 (firsts (directed_in rows apps)) (omega arith)
