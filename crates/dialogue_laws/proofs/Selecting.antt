-- Selection comes to an application of the card that starts a transaction.
use Rattle.std.proofs.Common.{◌≡◌, ℕ, ◌≤◌, not, nat_le, Bool, true, false, List, [], ◌∷◌, length, drop, slice_get, Option, Some, None, refl, sym, ap, ◌∙◌, subst, arith, if◌then◌else◌}
use Rattle.std.specs.List.{All}
use Rattle.std.proofs.lemmas.Bool.Decides.{nat_tests}
use Rattle.std.proofs.lemmas.List.Elements.{All-head, All-tail, All-weaker}
use Rattle.std.proofs.lemmas.Slice.Eq.{bytes_eq-Decides}
use Rattle.app_select.specs.Candidates.{CandidateData, is_candidate_named, is_allowed, candidates}
use Rattle.app_select.specs.Said.{SaidData, Named, select_said, select_command}
use Rattle.app_select.specs.Selecting.{SelectedData, final, final_by, or_else, first_selected, selecting}
use Rattle.ber_tlv.proofs.ReadAgain.{both}
use Rattle.card_app.specs.Selection.{app_found as finds, first_named, directory_asked}
use Rattle.card_cryptogram.specs.declared.phase.Phase.TheVariants.{Directory, Selected}
use Rattle.emv_dict.specs.Name.{directory_name}
use Rattle.card_files.specs.Files.{opening_of}
use Rattle.card_files.specs.ImageRules.{KeepsRules, IsImage}
use Rattle.card_files.specs.Views.{AppData, ImageData}
use Rattle.card_state.specs.Decisions.{Decided}
use Rattle.card_state.specs.Totals.{totals}
use Rattle.card_state.specs.declared.state.AppState.{AppState}
use Rattle.card_state.specs.declared.state.CardState.{CardState}
use Rattle.dialogue_laws.proofs.Answers.{state_at, phase_at}
use Rattle.dialogue_laws.proofs.Choices.{IsOwn, IsFound, application, directory, all_at, alone, no_directory_name, asks_application, confirmed}
use Rattle.dialogue_laws.proofs.Directing.{Directed, then_runs, directory_runs}
use Rattle.dialogue_laws.proofs.DirectoryRead.{directory_data}
use Rattle.dialogue_laws.proofs.Ends.{Ends}
use Rattle.dialogue_laws.proofs.Initiating.{directory_refuses}
use Rattle.dialogue_laws.proofs.Listing.{HasServing, list_runs}
use Rattle.dialogue_laws.proofs.Ordering.{all_candidates, named_candidates}
use Rattle.dialogue_laws.proofs.Runs.{Runs, done, asks, runs_as, chain}
use Rattle.dialogue_laws.proofs.Seeking.{begins, begins_itself, Sought, absent, there, sought}
use Rattle.dialogue_laws.proofs.Selects.{Selects, selects_one, selects_directory}
use Rattle.dialogue_laws.proofs.Shown.{fci_data}
use Rattle.dialogue_laws.proofs.Stages.{ReadEnds, Initiated, InitiationRuns}
use Rattle.dialogue_laws.specs.Cards.{Now, powered_with, says, goes}
use Rattle.dialogue_laws.specs.WellFormed.{HasWholeData, WellFormed}
use Rattle.emv_dict.specs.Progress.{Progress}
use Rattle.emv_dict.specs.Settings.{IsSettings}
use Rattle.emv_dict.specs.declared.ending.Step.TheVariants as step
use Rattle.emv_dict.specs.declared.purchase.AidRow.{AidRow}
use Rattle.emv_dict.specs.declared.purchase.Logged.{Logged}
use Rattle.env_map.specs.Entries.{Entries}
use Rattle.kernel.specs.StepsInTurn.{Rest, cut_off}
use Rattle.kernel.specs.Dialogue.{candidates_left, dialogue, granted, initiation, initiation_or, read}
use Rattle.pse_directory.specs.Directory.{directory as directory_course, found_or, by_directory, selecting_by}
use Rattle.read_records.specs.Options.{Opened, initiating}
use Rattle.terminal_state.specs.StepResults.{StepResult, state_so_far}
use Rattle.terminal_state.specs.Terminal.{Outset, terminal_objects}

module _ (image : ImageData) (reads : ReadEnds image) (initiates : InitiationRuns image) (outset : Outset) (kept : List Decided) (is_image : IsImage image)
    (well : WellFormed image outset kept) where
  abbrev state : CardState
  state = totals (opening_of image) kept

  abbrev Serving : List CandidateData → Type 0
  Serving among = HasServing image kept outset is_image well.apart well.unblocked well.serves outset.purchase.confirm among

  same_state : (now : Now) → now.kept ≡ kept → state_at image now ≡ state
  same_state now same = ap (totals (opening_of image)) same

  -- an application of the card is selected, and behind it stands the one that serves, where its own counter is full
  record Chosen (at : Now) (selected : SelectedData) : Type 0 where
    app : ℕ
    own : AppData
    now : AppState
    is : slice_get image.apps app ≡ Some own
    state_is : slice_get state.apps.items app ≡ Some now
    unblocked : now.blocked ≡ false
    phase : phase_at image at ≡ Selected app
    same : at.kept ≡ kept
    pdol : selected.pdol ≡ own.pdol
    left : All (IsFound image state) selected.left
    others : 65535 ≤ now.counter → Serving selected.left

  -- or its directory, behind which stands the one that serves
  record Strayed (at : Now) (selected : SelectedData) : Type 0 where
    phase : phase_at image at ≡ Directory
    same : at.kept ≡ kept
    pdol : selected.pdol ≡ None
    left : All (IsFound image state) selected.left
    others : Serving selected.left

  data Came (at : Now) (selected : SelectedData) : Type 0 where
    opened_it : Chosen at selected → Came at selected
    strayed : Strayed at selected → Came at selected

  left_of : (at : Now) (selected : SelectedData) → Came at selected → All (IsFound image state) selected.left
  left_of at selected (opened_it chosen) = chosen.left
  left_of at selected (strayed other) = other.left

  finds_by : (candidate : CandidateData) (own : IsOwn image state candidate) (hit : Option ℕ) → Sought image.apps candidate.name 0 hit → hit ≡ Some own.app
  finds_by candidate own hit (absent none) =
      let begin : begins own.own.name candidate.name ≡ true = subst (λ (n : List ℕ). begins own.own.name n ≡ true) (sym own.name) (begins_itself own.own.name) in
      absurd (cc (sym begin ∙ none own.app own.own (omega arith) own.is))
  finds_by candidate own hit (there app a up at begin before) =
      let too : begins a.name own.own.name ≡ true = subst (λ (n : List ℕ). begins a.name n ≡ true) own.name begin in
      ap (λ (n : ℕ). Some n) (sym (alone image well.apart own.app app own.own a own.is at too))

  -- the final SELECT of a candidate selects its application
  selects_own : (candidate : CandidateData) (own : IsOwn image state candidate) (now : Now) → now.kept ≡ kept → Selects image now 0 candidate.name (Named (not own.now.blocked) (fci_data own.own)) (Selected own.app)
  selects_own candidate own now same =
      let good : (state_at image now).blocked ≡ false = ap (λ (c : CardState). c.blocked) (same_state now same) ∙ well.unblocked in
      let rules : KeepsRules own.own = all_at KeepsRules image.apps own.app own.own own.is is_image.apps.rules in
      let here : slice_get (state_at image now).apps.items own.app ≡ Some own.now = ap (λ (c : CardState). slice_get c.apps.items own.app) (same_state now same) ∙ own.state_is in
      let sizes = both (nat_le 5 (length own.own.name)) (nat_le (length own.own.name) 16) rules.name in
      let least : 5 ≤ length own.own.name = grind (arith, nat_tests, sizes.0) in
      let most : length own.own.name ≤ 16 = grind (arith, nat_tests, sizes.1) in
      let size : length candidate.name ≡ length own.own.name = ap length own.name in
      let plain : directory_asked image 0 candidate.name ≡ None =
      subst (λ (n : List ℕ). directory_asked image 0 n ≡ None) (sym own.name) (asks_application image is_image.sight 0 own.app own.own own.is) in
      let hit : finds image.apps (phase_at image now) 0 candidate.name ≡ Some own.app = finds_by candidate own (first_named 0 candidate.name (drop 0 image.apps)) (sought image.apps candidate.name 0) in
      selects_one image now 0 candidate.name (phase_at image now) refl refl good plain refl own.app own.own own.now (omega arith) (omega arith) rules hit own.is here

  -- that of the directory's name selects the directory
  selects_directory_by : (candidate : CandidateData) (sfi : ℕ) → image.directory ≡ Some sfi → candidate.name ≡ directory_name → (now : Now) → now.kept ≡ kept
      → Selects image now 0 candidate.name (Named true directory_data) Directory
  selects_directory_by candidate sfi has named now same =
      let good : (state_at image now).blocked ≡ false = ap (λ (c : CardState). c.blocked) (same_state now same) ∙ well.unblocked in
      subst (λ (n : List ℕ). Selects image now 0 n (Named true directory_data) Directory) (sym named) (selects_directory image now sfi good has).selects

  -- behind a candidate that isn't the one that serves
  serves_behind : (candidate : CandidateData) (left : List CandidateData) (own : IsOwn image state candidate) (named : Bool) → is_candidate_named well.serves.own.name candidate ≡ named
      → Serving (candidate ∷ left) → (own.now ≡ well.serves.now → ⊥) → Serving left
  serves_behind candidate left own false is serving other = rw is at serving
  serves_behind candidate left own true is serving other =
      let name : candidate.name ≡ well.serves.own.name = (bytes_eq-Decides candidate.name well.serves.own.name).0 is in
      let begin : begins well.serves.own.name own.own.name ≡ true = subst (λ (n : List ℕ). begins well.serves.own.name n ≡ true) (sym name ∙ own.name) (begins_itself well.serves.own.name) in
      let place : own.app ≡ well.serves.app = alone image well.apart own.app well.serves.app own.own well.serves.own own.is well.serves.is begin in
      let one : Some own.now ≡ Some well.serves.now = sym own.state_is ∙ ap (slice_get state.apps.items) place ∙ well.serves.state_is in
      let same : own.now ≡ well.serves.now = cc in
      absurd (other same)

  full_other : (s : AppState) → 65535 ≤ s.counter → s ≡ well.serves.now → ⊥
  full_other s full same =
      let counter : s.counter ≡ well.serves.now.counter = ap (λ (x : AppState). x.counter) same in
      let below = well.serves.counter in
      absurd (omega (arith, counter, below, full))

  blocked_other : (s : AppState) → s.blocked ≡ true → s ≡ well.serves.now → ⊥
  blocked_other s blocked same = absurd (cc (sym blocked ∙ ap (λ (x : AppState). x.blocked) same ∙ well.serves.unblocked))

  serves_past_directory : (candidate : CandidateData) (left : List CandidateData) (sfi : ℕ) → image.directory ≡ Some sfi → candidate.name ≡ directory_name → (named : Bool)
      → is_candidate_named well.serves.own.name candidate ≡ named → Serving (candidate ∷ left) → Serving left
  serves_past_directory candidate left sfi has name false is serving = rw is at serving
  serves_past_directory candidate left sfi has name true is serving =
      absurd (no_directory_name image is_image.sight sfi has well.serves.app well.serves.own well.serves.is
      (sym ((bytes_eq-Decides candidate.name well.serves.own.name).0 is) ∙ name))

  abbrev selected_of : CandidateData → List CandidateData → Option (List ℕ) → SelectedData
  selected_of candidate left pdol = record { row = candidate.row; pdol = pdol; left = left }

  chosen : (candidate : CandidateData) (left : List CandidateData) (own : IsOwn image state candidate) (now : Now) → now.kept ≡ kept → own.now.blocked ≡ false
      → All (IsFound image state) left → Serving (candidate ∷ left)
      → Came (goes image now (select_command 0 candidate.name)) (selected_of candidate left own.own.pdol)
  chosen candidate left own now same free all serving =
      let made = selects_own candidate own now same in
      opened_it (record {
        app = own.app;
        own = own.own;
        now = own.now;
        is = own.is;
        state_is = own.state_is;
        unblocked = free;
        phase = made.phase;
        same = made.kept ∙ same;
        pdol = refl;
        left = all;
        others = λ full. serves_behind candidate left own (is_candidate_named well.serves.own.name candidate) refl serving (full_other own.now full);
      })

  -- what the final SELECT of a candidate comes to
  abbrev Final : List CandidateData → Now → Option SelectedData → Type 0
  Final left at None = (at.kept ≡ kept) × Serving left
  Final left at (Some selected) = Came at selected × (selected.left ≡ left)

  -- an application is selected, or is dropped where it is blocked
  own_final : (candidate : CandidateData) (left : List CandidateData) (own : IsOwn image state candidate) (blocked : Bool) → own.now.blocked ≡ blocked → All (IsFound image state) left
      → Serving (candidate ∷ left) → (now : Now) → now.kept ≡ kept → Runs image (Final left) now (final candidate left)
  own_final candidate left own false free all serving now same =
      let made = selects_own candidate own now same in
      let read : select_said (says image now (select_command 0 candidate.name)) ≡ Named true (fci_data own.own) = made.read ∙ ap (λ (b : Bool). Named (not b) (fci_data own.own)) free in
      asks (select_command 0 candidate.name) refl
      (done (Some (selected_of candidate left own.own.pdol)) (λ later. ap (λ (said : SaidData). final_by candidate left said later) read)
      (chosen candidate left own now same free all serving, refl))
  own_final candidate left own true blocked all serving now same =
      let made = selects_own candidate own now same in
      let read : select_said (says image now (select_command 0 candidate.name)) ≡ Named false (fci_data own.own) = made.read ∙ ap (λ (b : Bool). Named (not b) (fci_data own.own)) blocked in
      asks (select_command 0 candidate.name) refl
      (done None (λ later. ap (λ (said : SaidData). final_by candidate left said later) read)
      (made.kept ∙ same, serves_behind candidate left own (is_candidate_named well.serves.own.name candidate) refl serving (blocked_other own.now blocked)))

  final_by_kind : (candidate : CandidateData) (left : List CandidateData) → IsFound image state candidate → All (IsFound image state) left → Serving (candidate ∷ left) → (now : Now) → now.kept ≡ kept
      → Runs image (Final left) now (final candidate left)
  final_by_kind candidate left (application own) all serving now same = own_final candidate left own own.now.blocked refl all serving now same
  final_by_kind candidate left (directory sfi has name) all serving now same =
      let made = selects_directory_by candidate sfi has name now same in
      asks (select_command 0 candidate.name) refl
      (done (Some (selected_of candidate left None)) (λ later. ap (λ (said : SaidData). final_by candidate left said later) made.read) (
        strayed (record {
          phase = made.phase;
          same = made.kept ∙ same;
          pdol = refl;
          left = all;
          others = serves_past_directory candidate left sfi has name (is_candidate_named well.serves.own.name candidate) refl serving;
        }),
        refl,
      ))

  final_runs : (candidate : CandidateData) (left : List CandidateData) → All (IsFound image state) (candidate ∷ left) → Serving (candidate ∷ left) → (now : Now) → now.kept ≡ kept
      → Runs image (Final left) now (final candidate left)
  final_runs candidate left all serving now same =
      final_by_kind candidate left (All-head (IsFound image state) candidate left all) (All-tail (IsFound image state) candidate left all) serving now same

  -- the first candidate that is selected, else a later one
  else_runs : (left : List CandidateData) (course : List (List ℕ) → Progress (Option SelectedData)) (now : Now) → Runs image (Final left) now course
      → ((at : Now) → at.kept ≡ kept → Serving left → Runs image Came at (first_selected left)) → Runs image Came now (λ answers. or_else (course answers) (first_selected left))
  else_runs left course now (done None is (same, serving)) others =
      runs_as (λ later. sym (ap (λ (p : Progress (Option SelectedData)). or_else p (first_selected left)) (is later))) (others now same serving)
  else_runs left course now (done (Some selected) is (came, same)) others =
      done selected (λ later. ap (λ (p : Progress (Option SelectedData)). or_else p (first_selected left)) (is later)) came
  else_runs left course now (asks command is runs) others =
      asks command (ap (λ (p : Progress (Option SelectedData)). or_else p (first_selected left)) is)
      (else_runs left (λ later. course (says image now command ∷ later)) (goes image now command) runs others)

  opening_runs : (among : List CandidateData) → All (IsFound image state) among → Serving among → (now : Now) → now.kept ≡ kept → Runs image Came now (first_selected among)
  opening_runs [] all serving now same = absurd (cc serving)
  opening_runs (candidate ∷ left) all serving now same =
      else_runs left (final candidate left) now (final_runs candidate left all serving now same)
      (λ at held served. opening_runs left (All-tail (IsFound image state) candidate left all) served at held)

  -- what the candidates do that are left, where one of them serves
  abbrev OthersEnd : List CandidateData → Rest StepResult → Type 0
  OthersEnd left others = (now : Now) → now.kept ≡ kept → Serving left → (log : List Logged) → Ends image now (others log)

  granted_ends : (row : AidRow) (others : Rest StepResult) (app : ℕ) (a : AppData) (s : AppState) (whole : HasWholeData a) (before at : Now) (left : List CandidateData) (value : Option Opened)
      → Initiated image a whole app s before at value → slice_get image.apps app ≡ Some a → before.kept ≡ kept → (65535 ≤ s.counter → Serving left) → OthersEnd left others
      → (log : List Logged) → Ends image at (granted outset row others value log)
  granted_ends row others app a s whole before at left None (full, phase, held) is same serving ends log = ends at (held ∙ same) (serving full) log
  granted_ends row others app a s whole before at left (Some start) (begun, phase) is same serving ends log =
      subst (λ (o : Opened). Ends image at (read outset row o log)) (sym begun) (reads a app at outset row whole log is phase)

  chosen_ends : (at : Now) (selected : SelectedData) → Chosen at selected → (others : Rest StepResult) → OthersEnd selected.left others
      → (log : List Logged) → Ends image at (initiation outset selected others log)
  unfolding initiation
  chosen_ends at selected chosen others ends log =
      let whole : HasWholeData chosen.own = all_at HasWholeData image.apps chosen.app chosen.own chosen.is well.whole in
      let rules : KeepsRules chosen.own = all_at KeepsRules image.apps chosen.app chosen.own chosen.is is_image.apps.rules in
      let good : (state_at image at).blocked ≡ false = ap (λ (c : CardState). c.blocked) (same_state at chosen.same) ∙ well.unblocked in
      let here : slice_get (state_at image at).apps.items chosen.app ≡ Some chosen.now = ap (λ (c : CardState). slice_get c.apps.items chosen.app) (same_state at chosen.same) ∙ chosen.state_is in
      let terminal : Entries = terminal_objects outset selected.row (state_so_far []) in
      let runs : Runs image (Initiated image chosen.own whole chosen.app chosen.now at) at (initiating selected.pdol terminal) =
      subst (λ (list : Option (List ℕ)). Runs image (Initiated image chosen.own whole chosen.app chosen.now at) at (initiating list terminal)) (sym chosen.pdol)
      (initiates chosen.own chosen.app at chosen.now terminal whole rules chosen.is here good chosen.unblocked chosen.phase) in
      chain (cut_off []) step.Initiate [] (granted outset selected.row others) step.Initiate (initiating selected.pdol terminal) runs
      (λ after value held. granted_ends selected.row others chosen.app chosen.own chosen.now whole at after selected.left value held chosen.is chosen.same chosen.others ends) log

  -- the directory refuses, and the other candidates follow
  refused_ends : (row : AidRow) (others : Rest StepResult) (before at : Now) (left : List CandidateData) (value : Option Opened) → (value ≡ None) × (at.kept ≡ before.kept) → before.kept ≡ kept → Serving left
      → OthersEnd left others → (log : List Logged) → Ends image at (granted outset row others value log)
  refused_ends row others before at left None (is, held) same serving ends log = ends at (held ∙ same) serving log
  refused_ends row others before at left (Some start) (is, held) same serving ends log = absurd (cc is)

  strayed_ends : (at : Now) (selected : SelectedData) → Strayed at selected → (others : Rest StepResult) → OthersEnd selected.left others
      → (log : List Logged) → Ends image at (initiation outset selected others log)
  unfolding initiation
  strayed_ends at selected other others ends log =
      let terminal : Entries = terminal_objects outset selected.row (state_so_far []) in
      let runs : Runs image (λ after value. (value ≡ None) × (after.kept ≡ at.kept)) at (initiating selected.pdol terminal) =
      subst (λ (list : Option (List ℕ)). Runs image (λ after value. (value ≡ None) × (after.kept ≡ at.kept)) at (initiating list terminal)) (sym other.pdol)
      (directory_refuses image at terminal other.phase) in
      chain (cut_off []) step.Initiate [] (granted outset selected.row others) step.Initiate (initiating selected.pdol terminal) runs
      (λ after value held. refused_ends selected.row others at after selected.left value held other.same other.others ends) log

  initiation_ends : (at : Now) (selected : SelectedData) → Came at selected → (others : Rest StepResult) → OthersEnd selected.left others
      → (log : List Logged) → Ends image at (initiation outset selected others log)
  initiation_ends at selected (opened_it chosen) others ends log = chosen_ends at selected chosen others ends log
  initiation_ends at selected (strayed other) others ends log = strayed_ends at selected other others ends log

  opened_ends : (left : List CandidateData) (at : Now) (value : Option SelectedData) → Final left at value → OthersEnd left (candidates_left outset left)
      → (log : List Logged) → Ends image at (initiation_or outset (candidates_left outset left) value log)
  opened_ends left at None (same, serving) ends log = ends at same serving log
  opened_ends left at (Some selected) (came, is) ends log =
      initiation_ends at selected came (candidates_left outset left) (λ now same serving. ends now same (subst Serving is serving)) log

  candidates_end : (among : List CandidateData) → All (IsFound image state) among → OthersEnd among (candidates_left outset among)
  unfolding candidates_left
  candidates_end [] all now same serving log = absurd (cc serving)
  candidates_end (candidate ∷ left) all now same serving log =
      chain (cut_off []) step.Select [] (initiation_or outset (candidates_left outset left)) step.Select (final candidate left) (final_runs candidate left all serving now same)
      (λ at value held. opened_ends left at value held (candidates_end left (All-tail (IsFound image state) candidate left all))) log

  listed_runs : (found : List CandidateData) (now : Now) → now.kept ≡ kept → All (IsFound image state) found → Serving found
      → Runs image Came now (first_selected (candidates outset.purchase.confirm found))
  listed_runs found now same all serving =
      opening_runs (candidates outset.purchase.confirm found) (all_candidates (IsFound image state) outset.purchase.confirm found all)
      (named_candidates outset.purchase.confirm well.serves.own.name found
      (All-weaker (IsFound image state) (λ c. is_candidate_named well.serves.own.name c ≡ true → is_allowed outset.purchase.confirm c ≡ true) (λ c own. confirmed well.serves well.apart is_image.sight c own) found all) serving) now same

  -- the list, from whatever phase
  list_selects : IsSettings outset.settings → (now : Now) → now.kept ≡ kept → Runs image Came now (selecting outset.settings.aids outset.purchase.confirm)
  list_selects settings now same =
      list_runs image kept outset is_image well.apart well.unblocked well.serves outset.purchase.confirm listed_runs outset.settings.aids settings.rows well.serves.listed now same

  -- the directory's candidates, or the list where it gives none
  found_runs : IsSettings outset.settings → (at : Now) (value : List CandidateData) → Directed image kept well.serves.own.name at value
      → Runs image Came at (found_or first_selected (selecting outset.settings.aids outset.purchase.confirm) value)
  found_runs settings at [] given = list_selects settings at given.same
  found_runs settings at (first ∷ behind) given = opening_runs (first ∷ behind) given.all (given.serving first behind refl) at given.same

  by_start : IsSettings outset.settings → (pse : Bool) → Runs image Came (powered_with kept)
      (λ answers. if pse then by_directory outset.settings.aids outset.purchase.confirm (directory_course outset.settings.aids outset.purchase.confirm answers)
      else selecting outset.settings.aids outset.purchase.confirm answers)
  by_start settings false = list_selects settings (powered_with kept) refl
  by_start settings true =
      then_runs first_selected (selecting outset.settings.aids outset.purchase.confirm) (directory_course outset.settings.aids outset.purchase.confirm)
      (directory_runs image kept outset is_image well (powered_with kept) refl) (found_runs settings)

  selecting_runs : IsSettings outset.settings → Runs image Came (powered_with kept) (selecting_by outset.settings.pse outset.settings.aids outset.purchase.confirm)
  unfolding selecting_by
  selecting_runs settings = by_start settings outset.settings.pse

-- the whole dialogue, where reading and GET PROCESSING OPTIONS do what they owe
pub dialogue_ends : (image : ImageData) → ReadEnds image → InitiationRuns image → (outset : Outset) (found : List Decided) → IsImage image → IsSettings outset.settings → WellFormed image outset found
    → Ends image (powered_with found) (dialogue outset)
unfolding dialogue
dialogue_ends image reads initiates outset found is_image settings well =
    chain (cut_off []) step.Select [] (λ selected. initiation outset selected (candidates_left outset selected.left)) step.Power (selecting_by outset.settings.pse outset.settings.aids outset.purchase.confirm)
    (selecting_runs image reads initiates outset found is_image well settings)
    (λ at selected came. initiation_ends image reads initiates outset found is_image well at selected came (candidates_left outset selected.left)
    (λ now same serving. candidates_end image reads initiates outset found is_image well selected.left
    (left_of image reads initiates outset found is_image well at selected came) now same serving)) []
