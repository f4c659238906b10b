-- By which row the directory and the list find a name: the first that supports it.
use Rattle.std.proofs.Common.{◌≡◌, ℕ, zero, suc, ◌+◌, ◌&&◌, ◌||◌, Bool, true, false, List, [], ◌∷◌, ◌++◌, Option, Some, None, option_map, refl, sym, ap, ◌∙◌, subst, if◌then◌else◌}
use Rattle.std.specs.List.{All, list_any, filter, find, cons_option}
use Rattle.std.specs.Option.{option_or}
use Rattle.std.specs.Str.{bytes_eq}
use Rattle.std.proofs.lemmas.List.Elements.{All-nil, All-cons, All-append, All-filter, All-weaker}
use Rattle.std.proofs.lemmas.List.Folds.{list_any-append, find-append}
use Rattle.std.proofs.lemmas.Slice.Eq.{bytes_eq-Decides}
use Rattle.app_select.specs.Candidates.{CandidateData, is_candidate_named, firsts_behind, firsts, is_allowed, has_rank, by_rank, confirmable, candidates}
use Rattle.app_select.specs.Said.{is_supported}
use Rattle.card_files.specs.Views.{AppData}
use Rattle.dialogue_laws.proofs.Choices.{named_itself}
use Rattle.dialogue_laws.proofs.Finding.{shown_to, listed_in}
use Rattle.dialogue_laws.proofs.Names.{supports}
use Rattle.dialogue_laws.proofs.EntriesFound.{directed_in}
use Rattle.emv_dict.specs.declared.purchase.AidRow.{AidRow}

abbrev takes : List ℕ → AidRow → Bool
takes name row = is_supported row.name row.partial name

-- a candidate is of the first row that supports its name
abbrev pub HasRow : List AidRow → CandidateData → Type 0
HasRow rows c = find (takes c.name) rows ≡ Some c.row

directed_row : (rows : List AidRow) (a : AppData) (o : Option AidRow) (later : List CandidateData) → find (supports a) rows ≡ o → All (HasRow rows) later
    → All (HasRow rows) (cons_option (option_map (λ row. record { row = row; name = a.name; priority = a.priority }) o) later)
directed_row rows a None later is all = all
directed_row rows a (Some row) later is all = All-cons (HasRow rows) (record { row = row; name = a.name; priority = a.priority }) later is all

pub directed_rows : (rows : List AidRow) (apps : List AppData) → All (HasRow rows) (directed_in rows apps)
directed_rows rows [] = All-nil (HasRow rows)
directed_rows rows (a ∷ apps) = directed_row rows a (find (supports a) rows) (directed_in rows apps) refl (directed_rows rows apps)

-- the first of each name is the first one that has it
record Stands (earlier found : List CandidateData) (c : CandidateData) : Type 0 where
  new : list_any (is_candidate_named c.name) earlier ≡ false
  first : find (is_candidate_named c.name) found ≡ Some c

neither : (a b : Bool) → (a || (b || false)) ≡ false → (a ≡ false) × (b ≡ false)
neither true b is = absurd (cc is)
neither false true is = absurd (cc is)
neither false false is = (refl, refl)

passed : (earlier : List CandidateData) (one : CandidateData) (found : List CandidateData) (c : CandidateData) → Stands (earlier ++ one ∷ []) found c → Stands earlier (one ∷ found) c
passed earlier one found c stands =
    let other = neither (list_any (is_candidate_named c.name) earlier) (is_candidate_named c.name one) (sym (list_any-append (is_candidate_named c.name) earlier (one ∷ [])) ∙ stands.new) in
    record { new = other.0; first = rw other.1 stands.first }

firsts_stand : (earlier found : List CandidateData) → All (Stands earlier found) (firsts_behind earlier found)
firsts_stand earlier [] = All-nil (Stands earlier [])
firsts_stand earlier (one ∷ found) =
    let rest : List CandidateData = firsts_behind (earlier ++ one ∷ []) found in
    by (list_any (is_candidate_named one.name) earlier) refl (All-weaker (Stands (earlier ++ one ∷ []) found) (Stands earlier (one ∷ found)) (passed earlier one found) rest (firsts_stand (earlier ++ one ∷ []) found))
  where
    by : (there : Bool) → list_any (is_candidate_named one.name) earlier ≡ there → All (Stands earlier (one ∷ found)) (firsts_behind (earlier ++ one ∷ []) found)
        → All (Stands earlier (one ∷ found)) (if there then firsts_behind (earlier ++ one ∷ []) found else one ∷ firsts_behind (earlier ++ one ∷ []) found)
    by true is later = later
    by false is later =
        All-cons (Stands earlier (one ∷ found)) one (firsts_behind (earlier ++ one ∷ []) found) (record { new = is; first = rw (named_itself one.name) refl }) later

module _ (name : List ℕ) where
  abbrev called : List AppData → Bool
  called apps = list_any (λ a. bytes_eq a.name name) apps

  -- what a row finds of this name, and what all rows find
  abbrev ShownBy : AidRow → Bool → Option CandidateData → Type 0
  ShownBy row some None = (takes name row && some) ≡ false
  ShownBy row some (Some c) = (c.row ≡ row) × (takes name row ≡ true) × (some ≡ true)

  abbrev ListedBy : List AidRow → Bool → Option CandidateData → Type 0
  ListedBy rows some None = Unit {0}
  ListedBy rows some (Some c) = (find (takes name) rows ≡ Some c.row) × (some ≡ true)

  none_shown : (test : Bool) → (test && false) ≡ false
  none_shown true = refl
  none_shown false = refl

  other_shown : (row : AidRow) (some : Bool) (o : Option CandidateData) → takes name row ≡ false → ShownBy row some o → ShownBy row true o
  other_shown row some None is shown = rw is refl
  other_shown row some (Some c) is shown = absurd (cc (sym is ∙ shown.1))

  shown_by : (row : AidRow) (a : AppData) (supported same some : Bool) (later : List CandidateData) → takes a.name row ≡ supported → bytes_eq a.name name ≡ same
      → ShownBy row some (find (is_candidate_named name) later)
      → ShownBy row (same || some) (find (is_candidate_named name) (cons_option (if supported then Some (record { row = row; name = a.name; priority = a.priority }) else None) later))
  shown_by row a true true some later is named shown =
      let it : takes name row ≡ true = subst (λ (n : List ℕ). takes n row ≡ true) ((bytes_eq-Decides a.name name).0 named) is in
      rw named (refl, it, refl)
  shown_by row a true false some later is named shown = rw named shown
  shown_by row a false true some later is named shown =
      other_shown row some (find (is_candidate_named name) later) (subst (λ (n : List ℕ). takes n row ≡ false) ((bytes_eq-Decides a.name name).0 named) is) shown
  shown_by row a false false some later is named shown = shown

  shown_find : (row : AidRow) (apps : List AppData) → ShownBy row (called apps) (find (is_candidate_named name) (shown_to apps row))
  shown_find row [] = none_shown (takes name row)
  shown_find row (a ∷ apps) = shown_by row a (takes a.name row) (bytes_eq a.name name) (called apps) (shown_to apps row) refl refl (shown_find row apps)

  fails : (test some : Bool) → some ≡ true → (test && some) ≡ false → test ≡ false
  fails true some is both = absurd (cc (sym is ∙ both))
  fails false some is both = refl

  listed_by : (row : AidRow) (rows : List AidRow) (some : Bool) (this later : Option CandidateData) → ShownBy row some this → ListedBy rows some later → ListedBy (row ∷ rows) some (option_or this later)
  listed_by row rows some None None shown listed = tt
  listed_by row rows some None (Some c) shown listed =
      let other : takes name row ≡ false = fails (takes name row) some listed.1 shown in
      (rw other listed.0, listed.1)
  listed_by row rows some (Some c) later shown listed =
      let it : takes name row ≡ true = shown.1 in
      (rw it (ap (λ (r : AidRow). Some r) (sym shown.0)), shown.2)

  listed_find : (rows : List AidRow) (apps : List AppData) → ListedBy rows (called apps) (find (is_candidate_named name) (listed_in rows apps))
  listed_find [] apps = tt
  listed_find (row ∷ rows) apps =
      rw (find-append (is_candidate_named name) (shown_to apps row) (listed_in rows apps))
      (listed_by row rows (called apps) (find (is_candidate_named name) (shown_to apps row)) (find (is_candidate_named name) (listed_in rows apps)) (shown_find row apps) (listed_find rows apps))

pub listed_rows : (rows : List AidRow) (apps : List AppData) → All (HasRow rows) (firsts (listed_in rows apps))
listed_rows rows apps =
    All-weaker (Stands [] (listed_in rows apps)) (HasRow rows)
    (λ c stands. let at : ListedBy c.name rows (called c.name apps) (Some c) = rw stands.first at (listed_find c.name rows apps) in at.0)
    (firsts (listed_in rows apps)) (firsts_stand [] (listed_in rows apps))

-- what holds of the first of each name holds of the candidates
module _ (P : CandidateData → Type 0) where
  all_ranks : (rank ranks : ℕ) (among : List CandidateData) → All P among → All P (by_rank rank ranks among)
  all_ranks rank zero among all = All-nil P
  all_ranks rank (suc ranks) among all =
      All-append P (filter (has_rank rank) among) (by_rank (rank + 1) ranks among) (All-filter (has_rank rank) P among all) (all_ranks (rank + 1) ranks among all)

  pub all_candidates : (confirm : Bool) (found : List CandidateData) → All P (firsts found) → All P (candidates confirm found)
  unfolding candidates
  all_candidates confirm found all = all_ranks 1 16 (confirmable confirm found) (All-filter (is_allowed confirm) P (firsts found) all)
