-- The directory and the list agree.
use Rattle.std.proofs.Common.{◌≡◌, ℕ, Bool, false, List, [], ◌∷◌, Option, Some, None, refl, sym, ap, ◌∙◌}
use Rattle.std.specs.List.{All, find}
use Rattle.std.specs.Option.{IsSome}
use Rattle.std.proofs.lemmas.List.Elements.{All-head, All-tail, All-contains}
use Rattle.app_select.proofs.Names.{firsts-there}
use Rattle.app_select.specs.Candidates.{CandidateData, firsts, candidates}
use Rattle.app_select.specs.Said.{is_supported}
use Rattle.card_files.specs.Files.{opening_of}
use Rattle.card_files.specs.Views.{ImageData}
use Rattle.card_state.specs.Decisions.{Decided}
use Rattle.card_state.specs.Totals.{totals}
use Rattle.dialogue_laws.proofs.Answers.{state_at}
use Rattle.dialogue_laws.proofs.Ordering.{all_firsts}
use Rattle.dialogue_laws.specs.Cards.{Now}
use Rattle.dialogue_laws.proofs.Finding.{listed_in, list_comes}
use Rattle.dialogue_laws.proofs.Firsts.{HasRow, directed_rows, listed_rows, all_candidates}
use Rattle.dialogue_laws.proofs.Names.{found_alike, all_kept}
use Rattle.dialogue_laws.proofs.Order.{names_of, HavePriorities, same_names, same_order}
use Rattle.dialogue_laws.proofs.Owned.{priority_in, card_own, directed_own, listed_own}
use Rattle.dialogue_laws.proofs.EntriesFound.{directed_in, directory_comes}
use Rattle.dialogue_laws.specs.Agreeing.{ShowsAll, IsPlainRow, HaveSameNames, Agree, DirectoryAgrees}
use Rattle.emv_dict.specs.declared.purchase.AidRow.{AidRow}
use Rattle.pse_directory.specs.Directory.{kept_candidates}

same_parts : (a b : CandidateData) → a.row ≡ b.row → a.name ≡ b.name → a.priority ≡ b.priority → a ≡ b
same_parts a b row name priority =
    ap (λ (r : AidRow). record { row = r; name = a.name; priority = a.priority }) row
    ∙ ap (λ (n : List ℕ). record { row = b.row; name = n; priority = a.priority }) name
    ∙ ap (λ (p : Option ℕ). record { row = b.row; name = b.name; priority = p }) priority

module _ (image : ImageData) (decided : List Decided) (shows_all : ShowsAll image decided) (rows : List AidRow) where
  abbrev by_entries : List CandidateData
  by_entries = kept_candidates (directed_in rows image.apps)

  abbrev by_rows : List CandidateData
  by_rows = listed_in rows image.apps

  are_first : by_entries ≡ firsts (directed_in rows image.apps)
  are_first = all_kept rows image.apps shows_all.rules.apps.few

  alike : HaveSameNames by_entries by_rows
  alike name = rw are_first (firsts-there (directed_in rows image.apps) name ∙ found_alike rows image.apps name)

  abbrev priority : List ℕ → Option ℕ
  priority = priority_in image.apps

  own : All (λ a. a.priority ≡ priority a.name) image.apps
  own = card_own image.apps shows_all.rules.apps.names

  abbrev HasPriority : CandidateData → Type 0
  HasPriority c = c.priority ≡ priority c.name

  own_entries : HavePriorities priority by_entries
  own_entries = rw are_first (all_firsts HasPriority [] (directed_in rows image.apps) (directed_own priority rows image.apps own))

  own_rows : HavePriorities priority by_rows
  own_rows = listed_own priority rows image.apps own

  abbrev Own : CandidateData → Type 0
  Own c = HasRow rows c × HasPriority c

  both_of : (found : List CandidateData) → All (HasRow rows) found → HavePriorities priority found → All Own found
  both_of found of_row of_name k d within = (of_row k d within, of_name k d within)

  directed_own_all : (confirm : Bool) → All Own (candidates confirm by_entries)
  directed_own_all confirm =
      let of_row : All (HasRow rows) by_entries = rw are_first (all_firsts (HasRow rows) [] (directed_in rows image.apps) (directed_rows rows image.apps)) in
      all_candidates Own confirm by_entries (all_firsts Own [] by_entries (both_of by_entries of_row own_entries))

  listed_own_all : (confirm : Bool) → All Own (candidates confirm by_rows)
  listed_own_all confirm =
      all_candidates Own confirm by_rows (both_of (firsts by_rows) (listed_rows rows image.apps) (all_firsts HasPriority [] by_rows own_rows))

  one_candidate : (a b : CandidateData) → Own a → Own b → a.name ≡ b.name → a ≡ b
  one_candidate a b own_a own_b name =
      let found : Some a.row ≡ Some b.row = sym own_a.0 ∙ ap (λ (n : List ℕ). find (λ row. is_supported row.name row.partial n) rows) name ∙ own_b.0 in
      let row : a.row ≡ b.row = cc in
      let byte : a.priority ≡ b.priority = own_a.1 ∙ ap priority name ∙ sym own_b.1 in
      same_parts a b row name byte

  one_list : (one two : List CandidateData) → All Own one → All Own two → names_of one ≡ names_of two → one ≡ two
  one_list [] [] own_one own_two same = refl
  one_list [] (b ∷ two) own_one own_two same = absurd (cc same)
  one_list (a ∷ one) [] own_one own_two same = absurd (cc same)
  one_list (a ∷ one) (b ∷ two) own_one own_two same =
      let name : a.name ≡ b.name = cc in
      let names : names_of one ≡ names_of two = cc in
      let first : a ≡ b = one_candidate a b (All-head Own a one own_one) (All-head Own b two own_two) name in
      let later : one ≡ two = one_list one two (All-tail Own a one own_one) (All-tail Own b two own_two) names in
      cc

  agrees : (sfi : ℕ) → image.directory ≡ Some sfi → All IsPlainRow rows → (confirm : Bool) (one two : Now) → one.kept ≡ decided → two.kept ≡ decided → Agree image rows confirm one two
  agrees sfi has plain confirm one two same_one same_two =
      let well : (state_at image one).blocked ≡ false = ap (λ (ds : List Decided). (totals (opening_of image) ds).blocked) same_one ∙ shows_all.card in
      let of_one = directed_own_all confirm in
      let of_two = listed_own_all confirm in
      record {
        directed = candidates confirm by_entries;
        listed = candidates confirm by_rows;
        by_directory = directory_comes image shows_all.rules rows confirm sfi has one well;
        by_list = list_comes image decided shows_all confirm rows plain two same_two;
        names = same_names confirm priority by_entries by_rows own_entries own_rows alike;
        same = λ a b in_one in_two name. one_candidate a b (All-contains Own (candidates confirm by_entries) a of_one in_one) (All-contains Own (candidates confirm by_rows) b of_two in_two) name;
        order = λ own_ranks. one_list (candidates confirm by_entries) (candidates confirm by_rows) of_one of_two (same_order confirm priority by_entries by_rows own_entries own_rows alike own_ranks);
      }

pub agreed : DirectoryAgrees
agreed image decided rows confirm one two shows_all plain same_one same_two = by image.directory refl shows_all.directory
  where
    by : (o : Option ℕ) → image.directory ≡ o → IsSome o → Agree image rows confirm one two
    by None is some = absurd (cc some)
    by (Some sfi) is some = agrees image decided shows_all rows sfi is plain confirm one two same_one same_two
