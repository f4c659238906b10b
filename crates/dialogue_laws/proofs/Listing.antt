-- The list of applications: each row of the terminal finds applications of the card, and the one that serves is found.
use Rattle.std.proofs.Common.{◌≡◌, ℕ, zero, suc, ◌+◌, ◌<◌, ◌≤◌, ◌==◌, ◌&&◌, not, nat_lt, nat_le, Bool, true, false, IsTrue, List, [], ◌∷◌, ◌++◌, length, drop, slice_get, Option, Some, None, refl, sym, ap, ◌∙◌, subst, arith, inl, inr, ◌⊎◌, append-nil, if◌then◌else◌}
use Rattle.std.specs.List.{All, Contains, list_any}
use Rattle.std.specs.Option.{option_to_list}
use Rattle.std.proofs.lemmas.Bool.{cases_order, or_left, or_right}
use Rattle.std.proofs.lemmas.Bool.Decides.{nat_tests}
use Rattle.std.proofs.lemmas.List.Elements.{All-nil, All-cons, All-head, All-tail, All-append}
use Rattle.std.proofs.lemmas.List.Folds.{list_any-append}
use Rattle.std.specs.Str.{bytes_eq}
use Rattle.std.proofs.lemmas.Option.{slice_get_within}
use Rattle.std.proofs.lemmas.Slice.Eq.{bytes_eq-Decides}
use Rattle.app_select.proofs.Turns.{list_told, list_ended, goes_from}
use Rattle.app_select.specs.Candidates.{CandidateData, is_candidate_named, candidates}
use Rattle.app_select.specs.Listed.{candidate_by, has_next_occurrence}
use Rattle.app_select.specs.Said.{SaidData, Named, Nothing, select_said, select_command, cause_said, is_longer, is_supported}
use Rattle.app_select.specs.Selecting.{SelectedData, ListingData, listing, first_selected}
use Rattle.ber_tlv.proofs.ReadAgain.{both}
use Rattle.card_app.specs.Files.{is_behind_directory}
use Rattle.card_app.specs.Selection.{app_found as finds, first_named, looks_from, directory_asked}
use Rattle.card_cryptogram.specs.Asked.{is_by_name}
use Rattle.card_cryptogram.specs.declared.phase.Phase.TheVariants.{Directory, Selected}
use Rattle.emv_dict.specs.Name.{directory_name}
use Rattle.card_files.specs.Files.{opening_of}
use Rattle.card_files.specs.ImageRules.{KeepsRules, IsImage}
use Rattle.card_files.specs.Views.{AppData, ImageData}
use Rattle.card_state.specs.Decisions.{Decided}
use Rattle.card_state.specs.Totals.{totals}
use Rattle.card_state.specs.declared.state.AppState.{AppState}
use Rattle.card_state.specs.declared.state.CardState.{CardState}
use Rattle.dialogue_laws.proofs.Answers.{state_at, phase_at}
use Rattle.dialogue_laws.proofs.DirectoryRead.{directory_data}
use Rattle.dialogue_laws.proofs.Choices.{IsFound, application, directory, all_at, alone, named_itself, hidden}
use Rattle.dialogue_laws.proofs.Runs.{Runs, asks, runs_as}
use Rattle.dialogue_laws.proofs.Seeking.{begins, begins_shorter, begins_whole, supported_begins, Sought, absent, there, sought}
use Rattle.dialogue_laws.proofs.Selects.{Selects, selects_none, selects_one, Directs, selects_directory}
use Rattle.dialogue_laws.proofs.Shown.{fci_data}
use Rattle.dialogue_laws.proofs.Standing.{has_state}
use Rattle.dialogue_laws.specs.Cards.{Now, powered_with, says, goes}
use Rattle.dialogue_laws.specs.WellFormed.{HaveApartNames, CanServe}
use Rattle.emv_dict.specs.Settings.{IsAidRow}
use Rattle.emv_dict.specs.declared.purchase.AidRow.{AidRow}
use Rattle.terminal_state.specs.Terminal.{Outset}

-- P2 of the SELECT of this occurrence
abbrev pub which : ℕ → ℕ
which turn = if turn == 0 then 0 else 2

pub by_name : (first : Bool) → is_by_name 4 (if first then 0 else 2) ≡ true
by_name true = refl
by_name false = refl

first_or : (x : AidRow) (xs : List AidRow) (y : AidRow) → Contains (x ∷ xs) y → (x ≡ y) ⊎ Contains xs y
first_or x xs y (zero, within, is) = inl is
first_or x xs y (suc k, within, is) = inr (k, omega arith, is)

-- a SELECT of the list is answered, and the list goes on
module _ {image : ImageData} {Post : Now → SelectedData → Type 0} (row : AidRow) (rows : List AidRow) (confirm : Bool) where
  stepped : (now : Now) (turn : ℕ) (found more : List CandidateData) (again : Bool) (said : SaidData) → select_said (says image now (select_command (which turn) row.name)) ≡ said
      → cause_said said ≡ None → has_next_occurrence row turn said ≡ again → more ≡ found ++ option_to_list (candidate_by row said)
      → Runs image Post (goes image now (select_command (which turn) row.name)) (listing (goes_from again more row rows turn confirm))
      → Runs image Post now (listing (record { found = found; rows = row ∷ rows; turn = turn; confirm = confirm }))
  unfolding listing
  stepped now turn found more again said read fault on taken next =
      let answer : List ℕ = says image now (select_command (which turn) row.name) in
      asks (select_command (which turn) row.name) refl
      (runs_as (λ later. sym (list_told (listing (record { found = found; rows = row ∷ rows; turn = turn; confirm = confirm })) [] found more row rows turn confirm again answer said (sym read) fault on taken (λ l. refl) later)) next)

module _ (image : ImageData) (kept : List Decided) (outset : Outset) (is_image : IsImage image) (apart : HaveApartNames image.apps) (well : (totals (opening_of image) kept).blocked ≡ false)
    (serves : CanServe image (totals (opening_of image) kept) outset) (confirm : Bool) where
  abbrev state : CardState
  state = totals (opening_of image) kept

  -- the application that serves is found
  abbrev pub HasServing : List CandidateData → Type 0
  HasServing found = list_any (is_candidate_named serves.own.name) found ≡ true

  -- so it is, or a row that is left supports it
  data Later (found : List CandidateData) (rows : List AidRow) : Type 0 where
    listed : HasServing found → Later found rows
    waits : Contains rows serves.row → Later found rows

  -- or this row finds it from this place on
  data Hope (found : List CandidateData) (row : AidRow) (rows : List AidRow) (from : ℕ) : Type 0 where
    listed : HasServing found → Hope found row rows from
    comes : from ≤ serves.app → IsTrue (is_supported row.name row.partial serves.own.name) → Hope found row rows from
    waits : Contains rows serves.row → Hope found row rows from

  row_hope : (found : List CandidateData) (row : AidRow) (rows : List AidRow) → Later found (row ∷ rows) → Hope found row rows 0
  row_hope found row rows (listed is) = listed is
  row_hope found row rows (waits is) =
      elim (first_or row rows serves.row is) [
        | inl same ↦ comes (omega arith) (subst (λ (r : AidRow). IsTrue (is_supported r.name r.partial serves.own.name)) (sym same) serves.supported)
        | inr behind ↦ waits behind
      ]

  still : (found more : List CandidateData) → HasServing found → HasServing (found ++ more)
  still found more is = list_any-append (is_candidate_named serves.own.name) found more ∙ or_left (list_any (is_candidate_named serves.own.name) found) (list_any (is_candidate_named serves.own.name) more) is

  -- an application that a row finds, among the candidates where it is open and supported
  own_found : (row : AidRow) (app : ℕ) (a : AppData) (s : AppState) (blocked supported : Bool) → s.blocked ≡ blocked → slice_get image.apps app ≡ Some a → slice_get state.apps.items app ≡ Some s
      → All (IsFound image state) (option_to_list (if not blocked && supported then Some (record { row = row; name = a.name; priority = a.priority }) else None))
  own_found row app a s true supported is at state_is = All-nil (IsFound image state)
  own_found row app a s false false is at state_is = All-nil (IsFound image state)
  own_found row app a s false true is at state_is =
      All-cons (IsFound image state) (record { row = row; name = a.name; priority = a.priority }) []
      (application (record { app = app; own = a; now = s; is = at; state_is = state_is; name = refl; priority = refl })) (All-nil (IsFound image state))

  this_found : (row : AidRow) (found : List CandidateData) (blocked supported : Bool) → blocked ≡ false → supported ≡ true
      → HasServing (found ++ option_to_list (if not blocked && supported then Some (record { row = row; name = serves.own.name; priority = serves.own.priority }) else None))
  this_found row found true supported free known = absurd (cc free)
  this_found row found false false free known = absurd (cc known)
  this_found row found false true free known =
      let one : CandidateData = record { row = row; name = serves.own.name; priority = serves.own.priority } in
      let named : list_any (is_candidate_named serves.own.name) (one ∷ []) ≡ true = rw (named_itself serves.own.name) refl in
      list_any-append (is_candidate_named serves.own.name) found (one ∷ []) ∙ or_right (list_any (is_candidate_named serves.own.name) found) (list_any (is_candidate_named serves.own.name) (one ∷ [])) named

  -- where the application stands that serves, behind an answer
  data After (found : List CandidateData) (row : AidRow) (rows : List AidRow) (app : ℕ) : Type 0 where
    listed : HasServing found → After found row rows app
    ahead : app < serves.app → IsTrue (is_supported row.name row.partial serves.own.name) → After found row rows app
    waits : Contains rows serves.row → After found row rows app

  after : (found : List CandidateData) (row : AidRow) (rows : List AidRow) (from app : ℕ) (a : AppData) (s : AppState) → Hope found row rows from → slice_get image.apps app ≡ Some a
      → slice_get state.apps.items app ≡ Some s
      → ((k : ℕ) (b : AppData) → from ≤ k → k < app → slice_get image.apps k ≡ Some b → begins b.name row.name ≡ false)
      → After (found ++ option_to_list (candidate_by row (Named (not s.blocked) (fci_data a)))) row rows app
  after found row rows from app a s (listed is) at state_is before = listed (still found (option_to_list (candidate_by row (Named (not s.blocked) (fci_data a)))) is)
  after found row rows from app a s (waits is) at state_is before = waits is
  after found row rows from app a s (comes up supported) at state_is before =
      elim (cases_order app serves.app) [
        | inl same ↦
            let one : Some a ≡ Some serves.own = sym at ∙ ap (slice_get image.apps) same ∙ serves.is in
            let own : a ≡ serves.own = cc in
            let two : Some s ≡ Some serves.now = sym state_is ∙ ap (slice_get state.apps.items) same ∙ serves.state_is in
            let now : s ≡ serves.now = cc in
            let free : s.blocked ≡ false = ap (λ (x : AppState). x.blocked) now ∙ serves.unblocked in
            listed (subst (λ (x : AppData). HasServing (found ++ option_to_list (candidate_by row (Named (not s.blocked) (fci_data x))))) (sym own)
            (this_found row found s.blocked (is_supported row.name row.partial serves.own.name) free supported))
        | inr (inl less) ↦ ahead less supported
        | inr (inr more) ↦ absurd (cc (sym (supported_begins row.name row.partial serves.own.name supported) ∙ before serves.app serves.own up more serves.is))
      ]

  on_again : (found : List CandidateData) (row : AidRow) (rows : List AidRow) (app : ℕ) → After found row rows app → Hope found row rows (app + 1)
  on_again found row rows app (listed is) = listed is
  on_again found row rows app (ahead less supported) = comes (omega arith) supported
  on_again found row rows app (waits is) = waits is

  is_longest : (row : AidRow) (app : ℕ) (a : AppData) → slice_get image.apps app ≡ Some a → begins a.name row.name ≡ true → app < serves.app
      → IsTrue (is_supported row.name row.partial serves.own.name) → (longer : Bool) → is_longer row.name a.name ≡ longer → longer ≡ true
  is_longest row app a at begin less supported true is = refl
  is_longest row app a at begin less supported false is =
      let same : a.name ≡ row.name = begins_whole a.name row.name begin is in
      let too : begins serves.own.name a.name ≡ true = subst (λ (n : List ℕ). begins serves.own.name n ≡ true) (sym same) (supported_begins row.name row.partial serves.own.name supported) in
      let place : app ≡ serves.app = alone image apart app serves.app a serves.own at serves.is too in
      absurd (omega arith)

  on_next : (found : List CandidateData) (row : AidRow) (rows : List AidRow) (turn app : ℕ) (a : AppData) (s : AppState) → turn ≤ app → slice_get image.apps app ≡ Some a → begins a.name row.name ≡ true
      → has_next_occurrence row turn (Named (not s.blocked) (fci_data a)) ≡ false → After found row rows app → Later found rows
  on_next found row rows turn app a s few at begin ends (listed is) = listed is
  on_next found row rows turn app a s few at begin ends (waits is) = waits is
  on_next found row rows turn app a s few at begin ends (ahead less supported) =
      let longer : is_longer row.name a.name ≡ true = is_longest row app a at begin less supported (is_longer row.name a.name) refl in
      let within : app < length image.apps = slice_get_within image.apps app a at in
      let four : length image.apps ≤ 4 = is_image.apps.few in
      let turns : nat_lt (turn + 1) 16 ≡ true = grind (arith, nat_tests) in
      let on : has_next_occurrence row turn (Named (not s.blocked) (fci_data a)) ≡ true = rw (longer, turns) refl in
      absurd (cc (sym on ∙ ends))

  sought_none : (found : List CandidateData) (row : AidRow) (rows : List AidRow) (from : ℕ) → ((k : ℕ) (b : AppData) → from ≤ k → slice_get image.apps k ≡ Some b → begins b.name row.name ≡ false)
      → Hope found row rows from → Later found rows
  sought_none found row rows from none (listed is) = listed is
  sought_none found row rows from none (waits is) = waits is
  sought_none found row rows from none (comes up supported) =
      absurd (cc (sym (supported_begins row.name row.partial serves.own.name supported) ∙ none serves.app serves.own up serves.is))

  same_state : (now : Now) → now.kept ≡ kept → state_at image now ≡ state
  same_state now same = ap (totals (opening_of image)) same

  module _ {Post : Now → SelectedData → Type 0}
      (next : (found : List CandidateData) (now : Now) → now.kept ≡ kept → All (IsFound image state) found → HasServing found → Runs image Post now (first_selected (candidates confirm found))) where
    -- what is left of the list from its next row on
    abbrev RowsRun : List AidRow → Type 0
    RowsRun rows = (found : List CandidateData) (now : Now) → now.kept ≡ kept → All (IsFound image state) found → Later found rows
        → Runs image Post now (listing (record { found = found; rows = rows; turn = 0; confirm = confirm }))

    rows_end : RowsRun []
    rows_end found now same all (listed is) =
        let start : ListingData = record { found = found; rows = []; turn = 0; confirm = confirm } in
        runs_as (λ later. sym (list_ended (listing start) [] found [] confirm (omega arith) (λ l. refl) later)) (next found now same all is)
    rows_end found now same all (waits is) = let none = is.1 in absurd (omega (arith, none))

    module _ (row : AidRow) (rows : List AidRow) (size : 5 ≤ length row.name) (behind : RowsRun rows) where
      -- what the next occurrence of the row does, behind this application
      abbrev AgainRuns : ℕ → ℕ → Type 0
      AgainRuns turn from = (app : ℕ) (found : List CandidateData) (now : Now) → from ≤ app → app < length image.apps → phase_at image now ≡ Selected app → now.kept ≡ kept
          → All (IsFound image state) found → Hope found row rows (app + 1) → Runs image Post now (listing (record { found = found; rows = row ∷ rows; turn = turn + 1; confirm = confirm }))

      goes_by : (turn from app : ℕ) (a : AppData) (s : AppState) (found : List CandidateData) (now : Now) → turn ≤ from → from ≤ app → slice_get image.apps app ≡ Some a → begins a.name row.name ≡ true
          → Selects image now (which turn) row.name (Named (not s.blocked) (fci_data a)) (Selected app) → now.kept ≡ kept
          → All (IsFound image state) (found ++ option_to_list (candidate_by row (Named (not s.blocked) (fci_data a))))
          → After (found ++ option_to_list (candidate_by row (Named (not s.blocked) (fci_data a)))) row rows app → AgainRuns turn from
          → (again : Bool) → has_next_occurrence row turn (Named (not s.blocked) (fci_data a)) ≡ again
          → Runs image Post now (listing (record { found = found; rows = row ∷ rows; turn = turn; confirm = confirm }))
      goes_by turn from app a s found now few up at begin made same all stands again true on =
          let said : SaidData = Named (not s.blocked) (fci_data a) in
          let more : List CandidateData = found ++ option_to_list (candidate_by row said) in
          stepped row rows confirm now turn found more true said made.read refl on refl
          (again app more (goes image now (select_command (which turn) row.name)) up (slice_get_within image.apps app a at) made.phase (made.kept ∙ same) all (on_again more row rows app stands))
      goes_by turn from app a s found now few up at begin made same all stands again false on =
          let said : SaidData = Named (not s.blocked) (fci_data a) in
          let more : List CandidateData = found ++ option_to_list (candidate_by row said) in
          stepped row rows confirm now turn found more false said made.read refl on refl
          (behind more (goes image now (select_command (which turn) row.name)) (made.kept ∙ same) all (on_next more row rows turn app a s (omega arith) at begin on stands))

      turn_by : (turn from : ℕ) (found : List CandidateData) (now : Now) (hit : Option ℕ) → turn ≤ from → directory_asked image (which turn) row.name ≡ None
          → is_behind_directory (phase_at image now) (which turn) ≡ false → finds image.apps (phase_at image now) (which turn) row.name ≡ hit
          → Sought image.apps row.name from hit → now.kept ≡ kept → All (IsFound image state) found → Hope found row rows from → AgainRuns turn from
          → Runs image Post now (listing (record { found = found; rows = row ∷ rows; turn = turn; confirm = confirm }))
      turn_by turn from found now hit few plain front is (absent none) same all hope again =
          let good : (state_at image now).blocked ≡ false = ap (λ (c : CardState). c.blocked) (same_state now same) ∙ well in
          let made = selects_none image now (which turn) row.name (phase_at image now) (by_name (turn == 0)) refl good plain front is in
          stepped row rows confirm now turn found found false Nothing made.read refl refl (sym (append-nil found))
          (behind found (goes image now (select_command (which turn) row.name)) (made.kept ∙ same) all (sought_none found row rows from none hope))
      turn_by turn from found now hit few plain front is (there app a up at begin before) same all hope again =
          let good : (state_at image now).blocked ≡ false = ap (λ (c : CardState). c.blocked) (same_state now same) ∙ well in
          let rules : KeepsRules a = all_at KeepsRules image.apps app a at is_image.apps.rules in
          let held = has_state image (powered_with kept) app a at in
          let here : slice_get (state_at image now).apps.items app ≡ Some held.state = ap (λ (c : CardState). slice_get c.apps.items app) (same_state now same) ∙ held.there in
          let sizes = both (nat_le 5 (length a.name)) (nat_le (length a.name) 16) rules.name in
          let most : length a.name ≤ 16 = grind (arith, nat_tests, sizes.1) in
          let short : length row.name ≤ length a.name = begins_shorter a.name row.name begin in
          let made = selects_one image now (which turn) row.name (phase_at image now) (by_name (turn == 0)) refl good plain front app a held.state (omega arith) (omega arith) rules is at here in
          let said : SaidData = Named (not held.state.blocked) (fci_data a) in
          goes_by turn from app a held.state found now few up at begin made same
          (All-append (IsFound image state) found (option_to_list (candidate_by row said)) all (own_found row app a held.state held.state.blocked (is_supported row.name row.partial a.name) refl at held.there))
          (after found row rows from app a held.state hope at held.there before) again (has_next_occurrence row turn said) refl

      looked : (now : Now) (turn from : ℕ) → looks_from (phase_at image now) (which turn) ≡ from → finds image.apps (phase_at image now) (which turn) row.name ≡ first_named from row.name (drop from image.apps)
      looked now turn from looks = ap (λ (n : ℕ). first_named n row.name (drop n image.apps)) looks

      looks_behind : (now : Now) (turn app : ℕ) → phase_at image now ≡ Selected app → looks_from (phase_at image now) (which (turn + 1)) ≡ app + 1
      looks_behind now turn app here =
          let later : (turn + 1 == 0) ≡ false = grind (arith, nat_tests) in
          rw (later, here) refl

      -- behind an application there is no directory
      front_behind : (now : Now) (turn app : ℕ) → phase_at image now ≡ Selected app → is_behind_directory (phase_at image now) (which (turn + 1)) ≡ false
      front_behind now turn app here =
          let later : (turn + 1 == 0) ≡ false = grind (arith, nat_tests) in
          rw (later, here) refl

      plain_behind : (turn : ℕ) → directory_asked image (which (turn + 1)) row.name ≡ None
      plain_behind turn =
          let later : (turn + 1 == 0) ≡ false = grind (arith, nat_tests) in
          rw later refl

      turns : (fuel turn from : ℕ) (found : List CandidateData) (now : Now) → length image.apps ≤ from + fuel → turn ≤ from → directory_asked image (which turn) row.name ≡ None
          → is_behind_directory (phase_at image now) (which turn) ≡ false → looks_from (phase_at image now) (which turn) ≡ from
          → now.kept ≡ kept → All (IsFound image state) found → Hope found row rows from → Runs image Post now (listing (record { found = found; rows = row ∷ rows; turn = turn; confirm = confirm }))
      turns zero turn from found now enough few plain front looks same all hope =
          turn_by turn from found now (first_named from row.name (drop from image.apps)) few plain front (looked now turn from looks) (sought image.apps row.name from) same all hope
          (λ app more at up within phase held own hoped. absurd (omega arith))
      turns (suc fuel) turn from found now enough few plain front looks same all hope =
          turn_by turn from found now (first_named from row.name (drop from image.apps)) few plain front (looked now turn from looks) (sought image.apps row.name from) same all hope
          (λ app more at up within phase held own hoped.
          turns fuel (turn + 1) (app + 1) more at (omega arith) (omega arith) (plain_behind turn) (front_behind at turn app phase) (looks_behind at turn app phase) held own hoped)

      -- the row is the name of the card's directory: it finds that, and no application
      named_so : (sfi : ℕ) → directory_asked image 0 row.name ≡ Some sfi → (row.name ≡ directory_name) × (image.directory ≡ Some sfi)
      named_so sfi asked = by (bytes_eq row.name directory_name) refl asked
        where
          by : (same : Bool) → bytes_eq row.name directory_name ≡ same → (if same then image.directory else None) ≡ Some sfi → (row.name ≡ directory_name) × (image.directory ≡ Some sfi)
          by true is has = ((bytes_eq-Decides row.name directory_name).0 is, has)
          by false is has = absurd (cc has)

      later_behind : (sfi : ℕ) (found more : List CandidateData) → row.name ≡ directory_name → image.directory ≡ Some sfi → Hope found row rows 0 → Later (found ++ more) rows
      later_behind sfi found more name has (listed is) = listed (still found more is)
      later_behind sfi found more name has (waits is) = waits is
      later_behind sfi found more name has (comes up supported) =
          let begin : begins serves.own.name directory_name ≡ true =
          subst (λ (n : List ℕ). begins serves.own.name n ≡ true) name (supported_begins row.name row.partial serves.own.name supported) in
          absurd (cc (sym begin ∙ hidden image is_image.sight sfi has serves.app serves.own serves.is))

      directory_turn : (sfi : ℕ) (found : List CandidateData) (now : Now) → directory_asked image 0 row.name ≡ Some sfi → now.kept ≡ kept → All (IsFound image state) found → Hope found row rows 0
          → Runs image Post now (listing (record { found = found; rows = row ∷ rows; turn = 0; confirm = confirm }))
      directory_turn sfi found now asked same all hope =
          let names = named_so sfi asked in
          let good : (state_at image now).blocked ≡ false = ap (λ (c : CardState). c.blocked) (same_state now same) ∙ well in
          let own : Directs image now sfi = selects_directory image now sfi good names.1 in
          let made : Selects image now 0 row.name (Named true directory_data) Directory =
          subst (λ (n : List ℕ). Selects image now 0 n (Named true directory_data) Directory) (sym names.0) own.selects in
          let one : CandidateData = record { row = row; name = directory_name; priority = None } in
          let itself : bytes_eq directory_name row.name ≡ true = (bytes_eq-Decides directory_name row.name).1 (sym names.0) in
          let gives : found ++ one ∷ [] ≡ found ++ option_to_list (candidate_by row (Named true directory_data)) = rw itself refl in
          let no_longer : nat_lt (length row.name) (length directory_name) ≡ false = ap (λ (n : List ℕ). nat_lt (length n) (length directory_name)) names.0 in
          let ends : has_next_occurrence row 0 (Named true directory_data) ≡ false = rw no_longer refl in
          stepped row rows confirm now 0 found (found ++ one ∷ []) false (Named true directory_data) made.read refl ends gives
          (behind (found ++ one ∷ []) (goes image now (select_command 0 row.name)) (made.kept ∙ same)
          (All-append (IsFound image state) found (one ∷ []) all (All-cons (IsFound image state) one [] (directory sfi names.1 refl) (All-nil (IsFound image state))))
          (later_behind sfi found (one ∷ []) names.0 names.1 hope))

      row_by : (found : List CandidateData) (now : Now) (asked : Option ℕ) → directory_asked image 0 row.name ≡ asked → now.kept ≡ kept → All (IsFound image state) found → Hope found row rows 0
          → Runs image Post now (listing (record { found = found; rows = row ∷ rows; turn = 0; confirm = confirm }))
      row_by found now (Some sfi) is same all hope = directory_turn sfi found now is same all hope
      row_by found now None is same all hope = turns (length image.apps) 0 0 found now (omega arith) (omega arith) is refl refl same all hope

    rows_run : (rows : List AidRow) → All IsAidRow rows → RowsRun rows
    rows_run [] are found now same all later = rows_end found now same all later
    rows_run (row ∷ rows) are found now same all later =
        let is_row : IsAidRow row = All-head IsAidRow row rows are in
        row_by row rows is_row.identifier (rows_run rows (All-tail IsAidRow row rows are)) found now (directory_asked image 0 row.name) refl same all (row_hope found row rows later)

    -- the list comes to what follows it, with the application that serves among those found
    pub list_runs : (rows : List AidRow) → All IsAidRow rows → Contains rows serves.row → (now : Now) → now.kept ≡ kept
        → Runs image Post now (listing (record { found = []; rows = rows; turn = 0; confirm = confirm }))
    list_runs rows are is now same = rows_run rows are [] now same (All-nil (IsFound image state)) (waits is)
