-- The directory of a card gives the terminal's candidates, with the application that serves among them; a card without one
-- gives none.
use Rattle.std.proofs.Common.{◌≡◌, ℕ, zero, suc, ◌+◌, ◌-◌, ◌/◌, ◌<◌, ◌≤◌, ◌==◌, not, nat_le, Bool, true, false, if◌then◌else◌, IsTrue, List, [], ◌∷◌, ◌++◌, length, take, drop, slice_get, Option, Some, None, option_map, refl, sym, ap, ◌∙◌, subst, inl, inr, ◌⊎◌, arith, eq-eqb, append-nil, length-append}
use Rattle.std.specs.List.{All, Contains, list_any, find, cons_option, slice_index_or}
use Rattle.std.specs.Str.{bytes_eq}
use Rattle.std.proofs.lemmas.Bool.{cases_lt, or_left, or_right}
use Rattle.std.proofs.lemmas.Bool.Decides.{nat_tests}
use Rattle.std.proofs.lemmas.List.{take_all}
use Rattle.std.proofs.lemmas.List.Elements.{All-nil, All-cons, All-append, All-take, All-weaker}
use Rattle.std.proofs.lemmas.List.Folds.{list_any-append}
use Rattle.std.proofs.lemmas.Option.{slice_get_within}
use Rattle.apdu_core.specs.Command.{CommandData, record_command}
use Rattle.apdu_core.specs.Response.{ResponseData, response_of}
use Rattle.app_select.proofs.Names.{firsts-there}
use Rattle.app_select.specs.Candidates.{CandidateData, is_candidate_named, firsts_behind, firsts, is_allowed, candidates}
use Rattle.app_select.specs.Said.{is_supported, select_command}
use Rattle.ber_tlv.proofs.ReadAgain.{both}
use Rattle.card_app.specs.Answering.{instruction_answer, instruction_row}
use Rattle.card_app.specs.Files.{record_or, is_file, directory_reply, record_row}
use Rattle.card_app.specs.Selection.{app_found as finds, first_named, directory_asked}
use Rattle.card_app.specs.Session.{next_phase}
use Rattle.card_cryptogram.specs.declared.phase.Phase.{Phase}
use Rattle.card_cryptogram.specs.declared.phase.Phase.TheVariants.{Directory}
use Rattle.card_files.specs.Control.{fci_bytes}
use Rattle.card_files.specs.Directory.{directory_record_bytes, directory_record}
use Rattle.emv_dict.specs.Name.{directory_name}
use Rattle.card_files.specs.Files.{opening_of}
use Rattle.card_files.specs.ImageRules.{KeepsRules, IsImage}
use Rattle.card_files.specs.Views.{AppData, ImageData}
use Rattle.card_app.specs.PageReplies.{CardReplyData, refused, shows}
use Rattle.card_state.specs.Decisions.{Decided}
use Rattle.card_state.specs.Totals.{totals}
use Rattle.card_state.specs.declared.state.AppState.{AppState}
use Rattle.card_state.specs.declared.state.CardState.{CardState}
use Rattle.emv_dict.specs.Progress.{Progress, Wants, Stopped, Done}
use Rattle.emv_dict.specs.declared.purchase.AidRow.{AidRow}
use Rattle.pse_directory.specs.Directory.{listed_by, listed_in, kept_candidates as kept_of, told, records, named, directory, found_or, after_directory}
use Rattle.pse_directory.specs.Said.{NameSaid, Gives, Nothing, RecordSaid, Past, Holds, said_file, name_response, name_said, said_template, record_response, record_said}
use Rattle.terminal_state.specs.Terminal.{Outset}
use Rattle.dialogue_laws.proofs.Answers.{Answers, answers, command_again, state_at, phase_at}
use Rattle.dialogue_laws.proofs.Choices.{IsOwn, IsFound, application, all_at, named_itself, confirmed}
use Rattle.dialogue_laws.proofs.DirectoryRead.{directory_file_again, no_directory, entry_data, entry_again, entry_short}
use Rattle.dialogue_laws.proofs.Ordering.{all_firsts, all_candidates, named_candidates}
use Rattle.dialogue_laws.proofs.Reading.{file_byte, file_named, is_named}
use Rattle.dialogue_laws.proofs.Runs.{Runs, done, asks, runs_as}
use Rattle.dialogue_laws.proofs.Seeking.{Sought, absent, there, sought}
use Rattle.dialogue_laws.proofs.Selects.{asked, absent_row, shows_one, selects_directory}
use Rattle.dialogue_laws.proofs.Standing.{has_state}
use Rattle.dialogue_laws.specs.Cards.{Now, powered_with, says, goes}
use Rattle.dialogue_laws.specs.WellFormed.{WellFormed}

-- behind what a course finds, another follows
pub then_runs : {image : ImageData} {A : Type 0} {P : Now → List CandidateData → Type 0} {Post : Now → A → Type 0} {now : Now}
    (try : List CandidateData → List (List ℕ) → Progress A) (list : List (List ℕ) → Progress A) (course : List (List ℕ) → Progress (List CandidateData))
    → Runs image P now course → ((at : Now) (value : List CandidateData) → P at value → Runs image Post at (found_or try list value))
    → Runs image Post now (λ answers. after_directory try list (course answers))
then_runs {image} {A} {P} {Post} {now} try list course (done value is post) rest =
    runs_as (λ later. sym (ap (after_directory try list) (is later))) (rest now value post)
then_runs {image} {A} {P} {Post} {now} try list course (asks command is runs) rest =
    asks command (ap (after_directory try list) is) (then_runs try list (λ later. course (says image now command ∷ later)) runs rest)

-- what the directory's part of a selection comes to: candidates with the one that serves, or none
pub record Directed (image : ImageData) (kept : List Decided) (name : List ℕ) (at : Now) (value : List CandidateData) : Type 0 where
  pub same : at.kept ≡ kept
  pub all : All (IsFound image (totals (opening_of image) kept)) value
  pub serving : (first : CandidateData) (behind : List CandidateData) → value ≡ first ∷ behind → list_any (is_candidate_named name) value ≡ true

pub few_firsts : (earlier found : List CandidateData) → length (firsts_behind earlier found) ≤ length found
few_firsts earlier [] = omega arith
few_firsts earlier (candidate ∷ found) = by (list_any (is_candidate_named candidate.name) earlier) (few_firsts (earlier ++ candidate ∷ []) found)
  where
    by : (test : Bool) → length (firsts_behind (earlier ++ candidate ∷ []) found) ≤ length found
        → length (if test then firsts_behind (earlier ++ candidate ∷ []) found else candidate ∷ firsts_behind (earlier ++ candidate ∷ []) found) ≤ length (candidate ∷ found)
    by true few = omega arith
    by false few = omega arith

kept_all : (found : List CandidateData) → length found ≤ 4 → kept_of found ≡ firsts found
kept_all found few = let less = few_firsts [] found in take_all 16 (firsts found) (omega arith)

-- a row that passes is found, or an earlier one
find_some : (p : AidRow → Bool) (rows : List AidRow) (row : AidRow) → Contains rows row → p row ≡ true → find p rows ≡ None → ⊥
find_some p [] row (k, within, is) passes none = absurd (omega (arith, within))
find_some p (first ∷ rows) row (k, within, is) passes none = by k within is (p first) refl none (λ there missing. find_some p rows row there passes missing)
  where
    by : (k : ℕ) → k < length (first ∷ rows) → slice_index_or (first ∷ rows) k row ≡ row → (test : Bool) → p first ≡ test → (if test then Some first else find p rows) ≡ None
        → (Contains rows row → find p rows ≡ None → ⊥) → ⊥
    by k within is true found none later = absurd (cc none)
    by zero within is false found none later = absurd (cc (sym found ∙ ap p is ∙ passes))
    by (suc k) within is false found none later = later (k, omega arith, is) none

abbrev pub reading : ℕ → ℕ → CommandData
reading sfi number = record { class = 0; ins = 0xB2; p1 = number; p2 = file_byte sfi; body = []; expects = Some 0 }

module _ (image : ImageData) (kept : List Decided) (outset : Outset) (is_image : IsImage image) (well : WellFormed image outset kept) where
  abbrev state : CardState
  state = totals (opening_of image) kept

  abbrev rows : List AidRow
  rows = outset.settings.aids

  abbrev confirm : Bool
  confirm = outset.purchase.confirm

  abbrev Serving : List CandidateData → Type 0
  Serving found = list_any (is_candidate_named well.serves.own.name) found ≡ true

  abbrev Gave : Now → List CandidateData → Type 0
  Gave at value = Directed image kept well.serves.own.name at value

  -- the candidates of what the records gave
  directed : (found : List CandidateData) (at : Now) → at.kept ≡ kept → All (IsFound image state) found → length found ≤ 4 → Serving found → Gave at (candidates confirm (kept_of found))
  directed found at same all few serving =
      let first : All (IsFound image state) (kept_of found) = All-take (IsFound image state) 16 (firsts found) (all_firsts (IsFound image state) [] found all) in
      let there : list_any (is_candidate_named well.serves.own.name) (kept_of found) ≡ true =
      ap (list_any (is_candidate_named well.serves.own.name)) (kept_all found few) ∙ firsts-there found well.serves.own.name ∙ serving in
      record {
        same = same;
        all = all_candidates (IsFound image state) confirm (kept_of found) first;
        serving = λ one behind is. named_candidates confirm well.serves.own.name (kept_of found)
            (All-weaker (IsFound image state) (λ c. is_candidate_named well.serves.own.name c ≡ true → is_allowed confirm c ≡ true)
            (λ c own. confirmed well.serves well.apart is_image.sight c own) (kept_of found) first) there;
      }

  module _ (sfi : ℕ) (has : image.directory ≡ Some sfi) where
    low : (1 ≤ sfi) × (sfi ≤ 10)
    low = rw has at is_image.directory

    record_is : (now : Now) (number : ℕ) → 1 ≤ number → instruction_answer image (state_at image now) Directory (reading sfi number) ≡ record_or true (directory_record image.apps number)
    unfolding instruction_row record_row
    record_is now number some =
        let most : sfi ≤ 30 = omega (arith, low.1) in
        ap (λ (known : Bool). let r : CardReplyData = if not known then refused 0x6A86 else directory_reply image (file_byte sfi / 8) number in r) (is_named sfi number low.0 most some)
        ∙ ap (λ (n : ℕ). directory_reply image n number) (file_named sfi)
        ∙ ap (λ (o : Option ℕ). let r : CardReplyData = if is_file sfi o then record_or true (directory_record image.apps number) else refused 0x6A82 in r) has
        ∙ rw (eq-eqb sfi sfi refl) refl

    at_place : (now : Now) (place : ℕ) (o : Option AppData) → slice_get image.apps place ≡ o
        → instruction_answer image (state_at image now) Directory (reading sfi (place + 1)) ≡ record_or true (option_map directory_record_bytes o)
    at_place now place o is =
        let number : place + 1 - 1 ≡ place = omega arith in
        record_is now (place + 1) (omega arith) ∙ ap (λ (n : ℕ). record_or true (option_map directory_record_bytes (slice_get image.apps n))) number ∙ ap (λ (x : Option AppData). record_or true (option_map directory_record_bytes x)) is

    -- an application's record is read, and behind the last one there is none
    record Entry (now : Now) (place : ℕ) (said : RecordSaid) : Type 0 where
      read : record_said (says image now (record_command sfi (place + 1))) ≡ said
      phase : phase_at image (goes image now (record_command sfi (place + 1))) ≡ Directory
      kept_on : (goes image now (record_command sfi (place + 1))).kept ≡ now.kept

    entry_read : (now : Now) (place : ℕ) (a : AppData) → phase_at image now ≡ Directory → slice_get image.apps place ≡ Some a → Entry now place (Holds (entry_data a ∷ []))
    unfolding record_said next_phase
    entry_read now place a here is =
        let rules : KeepsRules a = all_at KeepsRules image.apps place a is is_image.apps.rules in
        let made : Answers image now (record_command sfi (place + 1)) (shows (directory_record_bytes a) 0x9000) Directory =
        answers (reading sfi (place + 1)) Directory (command_again (reading sfi (place + 1))) here (at_place now place (Some a) is) (entry_short a rules) in
        record {
          read = ap record_response made.read ∙ entry_again a rules;
          phase = made.phase;
          kept_on = made.kept ∙ append-nil now.kept;
        }

    past_read : (now : Now) (place : ℕ) → phase_at image now ≡ Directory → slice_get image.apps place ≡ None → Entry now place Past
    unfolding record_said next_phase
    past_read now place here is =
        let none : length {A = ℕ} [] ≤ 256 = omega arith in
        let made : Answers image now (record_command sfi (place + 1)) (refused 0x6A83) Directory =
        answers (reading sfi (place + 1)) Directory (command_again (reading sfi (place + 1))) here (at_place now place None is) none in
        record { read = ap record_response made.read; phase = made.phase; kept_on = made.kept ∙ append-nil now.kept }

    -- what an application's entry gives
    abbrev supports : AppData → AidRow → Bool
    supports a r = is_supported r.name r.partial a.name

    abbrev gives : AppData → Option AidRow → List CandidateData
    gives a o = cons_option (option_map (λ r. record { row = r; name = a.name; priority = a.priority }) o) []

    gives_few : (a : AppData) (o : Option AidRow) → length (gives a o) ≤ 1
    gives_few a None = omega arith
    gives_few a (Some r) = omega arith

    gives_own : (app : ℕ) (a : AppData) (s : AppState) (o : Option AidRow) → slice_get image.apps app ≡ Some a → slice_get state.apps.items app ≡ Some s → All (IsFound image state) (gives a o)
    gives_own app a s None is state_is = All-nil (IsFound image state)
    gives_own app a s (Some r) is state_is =
        All-cons (IsFound image state) (record { row = r; name = a.name; priority = a.priority }) []
        (application (record { app = app; own = a; now = s; is = is; state_is = state_is; name = refl; priority = refl })) (All-nil (IsFound image state))

    gives_serving : (a : AppData) (o : Option AidRow) → find (supports a) rows ≡ o → a ≡ well.serves.own → Serving (gives a o)
    gives_serving a None none same =
        let passes : supports a well.serves.row ≡ true = ap (λ (x : AppData). is_supported well.serves.row.name well.serves.row.partial x.name) same ∙ well.serves.supported in
        absurd (find_some (supports a) rows well.serves.row well.serves.listed passes none)
    gives_serving a (Some r) is same =
        let itself = ap (λ (x : AppData). bytes_eq x.name well.serves.own.name) same ∙ named_itself well.serves.own.name in
        rw itself refl

    -- how the reading stands before a record: the application that serves was found, or is still to come
    record Stands (place : ℕ) (found : List CandidateData) (now : Now) : Type 0 where
      phase : phase_at image now ≡ Directory
      same : now.kept ≡ kept
      all : All (IsFound image state) found
      few : length found ≤ place
      hope : (place ≤ well.serves.app) ⊎ Serving found

    hope_on : (place : ℕ) (a : AppData) (found : List CandidateData) → slice_get image.apps place ≡ Some a → (place ≤ well.serves.app) ⊎ Serving found
        → (place + 1 ≤ well.serves.app) ⊎ Serving (found ++ gives a (find (supports a) rows))
    hope_on place a found is (inr serving) =
        inr (list_any-append (is_candidate_named well.serves.own.name) found (gives a (find (supports a) rows))
        ∙ or_left (list_any (is_candidate_named well.serves.own.name) found) (list_any (is_candidate_named well.serves.own.name) (gives a (find (supports a) rows))) serving)
    hope_on place a found is (inl comes) =
        elim (cases_lt place well.serves.app) [
          | inl less ↦ inl (omega arith)
          | inr here ↦
              let same : place ≡ well.serves.app = omega arith in
              let one : Some a ≡ Some well.serves.own = sym is ∙ ap (slice_get image.apps) same ∙ well.serves.is in
              let own : a ≡ well.serves.own = cc in
              inr (list_any-append (is_candidate_named well.serves.own.name) found (gives a (find (supports a) rows))
              ∙ or_right (list_any (is_candidate_named well.serves.own.name) found) (list_any (is_candidate_named well.serves.own.name) (gives a (find (supports a) rows)))
              (gives_serving a (find (supports a) rows) refl own))
        ]

    stands_on : (place : ℕ) (a : AppData) (found : List CandidateData) (now : Now) → slice_get image.apps place ≡ Some a → Stands place found now → Entry now place (Holds (entry_data a ∷ []))
        → Stands (place + 1) (found ++ gives a (find (supports a) rows)) (goes image now (record_command sfi (place + 1)))
    stands_on place a found now is stands entry =
        let held = has_state image (powered_with kept) place a is in
        let one = gives_few a (find (supports a) rows) in
        let before = stands.few in
        record {
          phase = entry.phase;
          same = entry.kept_on ∙ stands.same;
          all = All-append (IsFound image state) found (gives a (find (supports a) rows)) stands.all (gives_own place a held.state (find (supports a) rows) is held.there);
          few = omega (arith, length-append found (gives a (find (supports a) rows)), one, before);
          hope = hope_on place a found is stands.hope;
        }

    served : (found : List CandidateData) (place : ℕ) → length image.apps ≤ place → (place ≤ well.serves.app) ⊎ Serving found → Serving found
    served found place all (inr serving) = serving
    served found place all (inl comes) = let within : well.serves.app < length image.apps = slice_get_within image.apps well.serves.app well.serves.own well.serves.is in absurd (omega arith)

    records_run : (rest : List AppData) (place : ℕ) (found : List CandidateData) (now : Now) → ((k : ℕ) → slice_get image.apps (place + k) ≡ slice_get rest k) → place + length rest ≡ length image.apps
        → Stands place found now → Runs image Gave now (records rows confirm sfi (place + 1) found)
    unfolding records
    records_run [] place found now stand count stands =
        let four : length image.apps ≤ 4 = is_image.apps.few in
        let here : place ≡ place + 0 = omega arith in
        let none : slice_get image.apps place ≡ None = ap (slice_get image.apps) here ∙ stand 0 in
        let entry = past_read now place stands.phase none in
        let few = stands.few in
        asks (record_command sfi (place + 1)) refl
        (done (candidates confirm (kept_of found)) (λ later. rw entry.read refl)
        (directed found (goes image now (record_command sfi (place + 1))) (entry.kept_on ∙ stands.same) stands.all (omega arith) (served found place (omega arith) stands.hope)))
    records_run (a ∷ rest) place found now stand count stands =
        let four : length image.apps ≤ 4 = is_image.apps.few in
        let here : place ≡ place + 0 = omega arith in
        let is : slice_get image.apps place ≡ Some a = ap (slice_get image.apps) here ∙ stand 0 in
        let entry = entry_read now place a stands.phase is in
        let not_last : (place + 1 == 255) ≡ false = grind (arith, nat_tests) in
        let behind : (k : ℕ) → slice_get image.apps (place + 1 + k) ≡ slice_get rest k =
        (λ k. let same : place + 1 + k ≡ place + suc k = omega arith in ap (slice_get image.apps) same ∙ stand (suc k)) in
        let left : place + 1 + length rest ≡ length image.apps = omega (arith, count) in
        asks (record_command sfi (place + 1)) refl
        (runs_as (λ later. sym (rw (entry.read, not_last) refl))
        (records_run rest (place + 1) (found ++ gives a (find (supports a) rows)) (goes image now (record_command sfi (place + 1))) behind left (stands_on place a found now is stands entry)))

    with_directory : (now : Now) → now.kept ≡ kept → Runs image Gave now (directory rows confirm)
    unfolding directory name_said
    with_directory now same =
        let good : (state_at image now).blocked ≡ false = ap (λ (ds : List Decided). (totals (opening_of image) ds).blocked) same ∙ well.unblocked in
        let made = selects_directory image now sfi good has in
        let read : name_said (says image now (select_command 0 directory_name)) ≡ Gives sfi =
        ap name_response made.answer.read ∙ ap said_file (directory_file_again sfi low.0 low.1) in
        asks (select_command 0 directory_name) refl
        (runs_as (λ later. sym (ap (λ (said : NameSaid). named said (λ n. records rows confirm n 1 [] later) later) read))
        (records_run image.apps 0 [] (goes image now (select_command 0 directory_name)) (λ k. let same_place : 0 + k ≡ k = omega arith in ap (slice_get image.apps) same_place) (omega arith)
        (record { phase = made.selects.phase; same = made.selects.kept ∙ same; all = All-nil (IsFound image state); few = omega arith; hope = inl (omega arith) })))

  none_given : (at : Now) → at.kept ≡ kept → Gave at []
  none_given at same = record { same = same; all = All-nil (IsFound image state); serving = λ first behind is. absurd (cc is) }

  -- a card without a directory answers with an application or with none
  without_by : (now : Now) (hit : Option ℕ) → image.directory ≡ None → now.kept ≡ kept → finds image.apps (phase_at image now) 0 directory_name ≡ hit → Sought image.apps directory_name 0 hit
      → (name_said (says image now (select_command 0 directory_name)) ≡ Nothing) × ((goes image now (select_command 0 directory_name)).kept ≡ kept)
  unfolding name_said
  without_by now hit missing same found (absent none) =
      let good : (state_at image now).blocked ≡ false = ap (λ (ds : List Decided). (totals (opening_of image) ds).blocked) same ∙ well.unblocked in
      let is = absent_row image now 0 directory_name (phase_at image now) refl refl good missing refl found true refl in
      let empty : length {A = ℕ} [] ≤ 256 = omega arith in
      let made = answers {image = image} {now = now} {command = select_command 0 directory_name} {reply = refused 0x6A82} (asked 0 directory_name) (phase_at image now)
      (command_again (asked 0 directory_name)) refl is empty in
      (ap name_response made.read, made.kept ∙ append-nil now.kept ∙ same)
  without_by now hit missing same found (there app a up at begin before) =
      let good : (state_at image now).blocked ≡ false = ap (λ (ds : List Decided). (totals (opening_of image) ds).blocked) same ∙ well.unblocked in
      let rules : KeepsRules a = all_at KeepsRules image.apps app a at is_image.apps.rules in
      let held = has_state image now app a at in
      let made = shows_one image now 0 directory_name (phase_at image now) refl refl good missing refl app a held.state (omega arith) (omega arith) rules found at held.there in
      (by a rules held.state.blocked (response_of (says image now (select_command 0 directory_name))) made.read, made.kept ∙ append-nil now.kept ∙ same)
    where
      by : (a : AppData) → KeepsRules a → (blocked : Bool) (answer : Option ResponseData) → answer ≡ Some (record { body = fci_bytes a; status = (if blocked then 0x6283 else 0x9000) }) → name_response answer ≡ Nothing
      by a rules true answer is = ap name_response is
      by a rules false answer is = ap name_response is ∙ ap said_file (no_directory a rules)

  without_directory : (now : Now) → image.directory ≡ None → now.kept ≡ kept → Runs image Gave now (directory rows confirm)
  unfolding directory
  without_directory now missing same =
      let said = without_by now (first_named 0 directory_name (drop 0 image.apps)) missing same refl (sought image.apps directory_name 0) in
      asks (select_command 0 directory_name) refl
      (done [] (λ later. ap (λ (said : NameSaid). named said (λ n. records rows confirm n 1 [] later) later) said.0)
      (none_given (goes image now (select_command 0 directory_name)) said.1))

  pub directory_runs : (now : Now) → now.kept ≡ kept → Runs image Gave now (directory rows confirm)
  directory_runs now same = by image.directory refl
    where
      by : (o : Option ℕ) → image.directory ≡ o → Runs image Gave now (directory rows confirm)
      by None is = without_directory now is same
      by (Some sfi) is = with_directory sfi is now same
