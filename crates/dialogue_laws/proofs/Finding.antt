-- What a terminal finds by its list of AIDs at a card: by each row in its order, each application that the row supports.
use Rattle.std.proofs.Common.{◌≡◌, ◌≢◌, ℕ, zero, suc, ◌+◌, ◌-◌, ◌<◌, ◌≤◌, ◌==◌, ◌&&◌, not, nat_lt, nat_le, Bool, true, false, List, [], ◌∷◌, ◌++◌, length, drop, map, slice_get, Option, Some, None, refl, sym, ap, ◌∙◌, subst, arith, append_assoc, append-nil, if◌then◌else◌}
use Rattle.std.specs.List.{All, cons_option, filter_map, flat_map}
use Rattle.std.specs.Option.{option_to_list}
use Rattle.std.proofs.lemmas.Bool.Decides.{nat_tests}
use Rattle.std.proofs.lemmas.List.{drop-drop}
use Rattle.std.proofs.lemmas.List.Elements.{All-head, All-tail}
use Rattle.std.proofs.lemmas.Option.{slice_get_within}
use Rattle.app_select.specs.Candidates.{CandidateData, candidates}
use Rattle.app_select.specs.Listed.{has_next_occurrence, candidate_by}
use Rattle.app_select.specs.Said.{SaidData, Named, Nothing, select_said, select_command, cause_said, is_longer, is_supported}
use Rattle.ber_tlv.proofs.ReadAgain.{both}
use Rattle.card_app.specs.Files.{is_behind_directory}
use Rattle.card_app.specs.Selection.{app_found as finds, first_named, looks_from, directory_asked}
use Rattle.card_cryptogram.specs.Asked.{is_by_name}
use Rattle.card_cryptogram.specs.declared.phase.Phase.TheVariants.{Selected}
use Rattle.card_files.specs.Files.{opening_of}
use Rattle.card_files.specs.ImageRules.{KeepsRules}
use Rattle.card_files.specs.Views.{AppData, ImageData}
use Rattle.card_state.specs.Decisions.{Decided}
use Rattle.card_state.specs.Totals.{app_totals, own_decisions, apps_totals, totals}
use Rattle.card_state.specs.declared.state.AppState.{AppState}
use Rattle.card_state.specs.declared.state.CardState.{CardState}
use Rattle.dialogue_laws.proofs.Answers.{state_at, phase_at}
use Rattle.dialogue_laws.proofs.Choices.{all_at}
use Rattle.dialogue_laws.proofs.Listing.{which, by_name}
use Rattle.dialogue_laws.proofs.Seeking.{begins, begins_shorter, begins_whole, supported_begins, Sought, absent, there, sought}
use Rattle.dialogue_laws.proofs.Selects.{Selects, selects_none, selects_one}
use Rattle.dialogue_laws.proofs.Shown.{fci_data}
use Rattle.dialogue_laws.proofs.Standing.{among}
use Rattle.dialogue_laws.specs.Cards.{Now, says, goes}
use Rattle.dialogue_laws.proofs.Courses.{comes_as}
use Rattle.dialogue_laws.proofs.ListSteps.{list_on, next_on, one_found, list_step, list_end, list_asks, from_start}
use Rattle.dialogue_laws.specs.Agreeing.{ShowsAll, IsPlainRow}
use Rattle.dialogue_laws.specs.StepAtCard.{ComesTo, done, asks}
use Rattle.dialogue_laws.specs.ListCourse.{list_candidates}
use Rattle.emv_dict.specs.declared.purchase.AidRow.{AidRow}
use Rattle.pse_directory.specs.Directory.{done as is_done}

-- an application as a row finds it, where the row supports its name
abbrev pub found_by_row : AidRow → AppData → Option CandidateData
found_by_row row a = if is_supported row.name row.partial a.name then Some (record { row = row; name = a.name; priority = a.priority }) else None

abbrev pub shown_to : List AppData → AidRow → List CandidateData
shown_to apps row = filter_map (found_by_row row) apps

abbrev pub listed_in : List AidRow → List AppData → List CandidateData
listed_in rows apps = flat_map (shown_to apps) rows

get_behind : (from : ℕ) (apps : List AppData) (k : ℕ) → slice_get apps (from + k) ≡ slice_get (drop from apps) k
get_behind zero apps k = let same : 0 + k ≡ k = omega arith in ap (slice_get apps) same
get_behind (suc from) [] k = refl
get_behind (suc from) (a ∷ apps) k =
    let same : suc from + k ≡ suc (from + k) = omega arith in
    ap (slice_get (a ∷ apps)) same ∙ get_behind from apps k

module _ (row : AidRow) where
  unsupported : (a : AppData) → begins a.name row.name ≡ false → found_by_row row a ≡ None
  unsupported a other = by (is_supported row.name row.partial a.name) refl
    where
      by : (test : Bool) → is_supported row.name row.partial a.name ≡ test
          → ◌≡◌ {A = Option CandidateData} (if test then Some (record { row = row; name = a.name; priority = a.priority }) else None) None
      by true is = absurd (cc (sym other ∙ supported_begins row.name row.partial a.name is))
      by false is = refl

  -- none of these is found
  none_shown : (apps : List AppData) → ((k : ℕ) (b : AppData) → slice_get apps k ≡ Some b → begins b.name row.name ≡ false) → shown_to apps row ≡ []
  none_shown [] none = refl
  none_shown (a ∷ apps) none = rw (unsupported a (none 0 a refl)) (none_shown apps (λ k. none (suc k)))

  -- the first that is found, and those behind it
  first_shown : (apps : List AppData) (app : ℕ) (a : AppData) → slice_get apps app ≡ Some a
      → ((k : ℕ) (b : AppData) → k < app → slice_get apps k ≡ Some b → begins b.name row.name ≡ false)
      → shown_to apps row ≡ cons_option (found_by_row row a) (shown_to (drop (app + 1) apps) row)
  first_shown [] zero a at before = absurd (cc at)
  first_shown [] (suc app) a at before = absurd (cc at)
  first_shown (x ∷ apps) zero a at before =
      let same : x ≡ a = cc in
      ap (λ (y : AppData). cons_option (found_by_row row y) (shown_to apps row)) same
  first_shown (x ∷ apps) (suc app) a at before =
      let next : suc app + 1 ≡ suc (app + 1) = omega arith in
      rw (unsupported x (before 0 x (omega arith) refl), next)
      (first_shown apps app a at (λ k b below. before (suc k) b (omega arith)))

-- each application has a state
has_state : (image : ImageData) (decided : List Decided) (app : ℕ) (a : AppData) → slice_get image.apps app ≡ Some a
    → (s : AppState) × (slice_get (totals (opening_of image) decided).apps.items app ≡ Some s)
unfolding totals
has_state image decided app a is = among 0 image.apps decided app a is

module _ (image : ImageData) (decided : List Decided) (shows_all : ShowsAll image decided) (confirm : Bool) where
  same_state : (now : Now) → now.kept ≡ decided → state_at image now ≡ totals (opening_of image) decided
  same_state now same = ap (totals (opening_of image)) same

  good : (now : Now) → now.kept ≡ decided → (state_at image now).blocked ≡ false
  good now same = ap (λ (c : CardState). c.blocked) (same_state now same) ∙ shows_all.card

  module _ {value : List CandidateData} (row : AidRow) (rows : List AidRow) (plain_row : IsPlainRow row) (all : List CandidateData)
      (behind : (now : Now) → now.kept ≡ decided → ComesTo image value now (list_on all rows 0 confirm)) where
    -- a SELECT of the list is answered, and the list goes on
    stepped : (now : Now) (turn : ℕ) (found more : List CandidateData) (again : Bool) (said : SaidData) → select_said (says image now (select_command (which turn) row.name)) ≡ said
        → cause_said said ≡ None → has_next_occurrence row turn said ≡ again → more ≡ found ++ option_to_list (candidate_by row said)
        → ComesTo image value (goes image now (select_command (which turn) row.name)) (next_on again more row rows turn confirm)
        → ComesTo image value now (list_on found (row ∷ rows) turn confirm)
    stepped now turn found more again said read fault on taken next =
        asks (select_command (which turn) row.name) (list_asks found row rows turn confirm)
        (comes_as (λ later. sym (list_step found more row rows turn confirm again (says image now (select_command (which turn) row.name)) said later read fault on taken)) next)

    -- what the next occurrence of the row does, behind this application
    abbrev AgainComes : ℕ → ℕ → Type 0
    AgainComes turn from = (app : ℕ) (found : List CandidateData) (now : Now) → from ≤ app → app < length image.apps → phase_at image now ≡ Selected app → now.kept ≡ decided
        → found ++ shown_to (drop (app + 1) image.apps) row ≡ all → ComesTo image value now (list_on found (row ∷ rows) (turn + 1) confirm)

    -- behind an application whose name is the AID, no other is found
    alone_shown : (turn app : ℕ) (a : AppData) → turn ≤ app → slice_get image.apps app ≡ Some a → begins a.name row.name ≡ true → has_next_occurrence row turn (Named true (fci_data a)) ≡ false
        → shown_to (drop (app + 1) image.apps) row ≡ []
    alone_shown turn app a few at begin ends =
        let within : app < length image.apps = slice_get_within image.apps app a at in
        let four : length image.apps ≤ 4 = shows_all.rules.apps.few in
        let turns : nat_lt (turn + 1) 16 ≡ true = grind (arith, nat_tests) in
        let same : a.name ≡ row.name = begins_whole a.name row.name begin (by (is_longer row.name a.name) (rw turns at ends)) in
        none_shown row (drop (app + 1) image.apps)
        (λ k b is.
        let there : slice_get image.apps (app + 1 + k) ≡ Some b = get_behind (app + 1) image.apps k ∙ is in
        let other : app ≢ app + 1 + k = (λ e. omega arith) in
        subst (λ (n : List ℕ). begins b.name n ≡ false) same (shows_all.apart app (app + 1 + k) a b at there other))
      where
        by : (longer : Bool) → (longer && true) ≡ false → longer ≡ false
        by true is = is
        by false is = refl

    found_at : (turn from app : ℕ) (a : AppData) (found : List CandidateData) (now : Now) → turn ≤ from → from ≤ app → slice_get image.apps app ≡ Some a → begins a.name row.name ≡ true
        → Selects image now (which turn) row.name (Named true (fci_data a)) (Selected app) → now.kept ≡ decided
        → found ++ cons_option (found_by_row row a) (shown_to (drop (app + 1) image.apps) row) ≡ all → AgainComes turn from
        → (again : Bool) → has_next_occurrence row turn (Named true (fci_data a)) ≡ again → ComesTo image value now (list_on found (row ∷ rows) turn confirm)
    found_at turn from app a found now few up at begin made same whole again true on =
        let more : List CandidateData = found ++ option_to_list (found_by_row row a) in
        stepped now turn found more true (Named true (fci_data a)) made.read refl on refl
        (again app more (goes image now (select_command (which turn) row.name)) up (slice_get_within image.apps app a at) made.phase (made.kept ∙ same)
        (one_found found (found_by_row row a) (shown_to (drop (app + 1) image.apps) row) ∙ whole))
    found_at turn from app a found now few up at begin made same whole again false on =
        let none : shown_to (drop (app + 1) image.apps) row ≡ [] = alone_shown turn app a (omega arith) at begin on in
        let ends : all ≡ found ++ option_to_list (found_by_row row a) =
        sym whole ∙ sym (one_found found (found_by_row row a) (shown_to (drop (app + 1) image.apps) row))
        ∙ ap (λ (later : List CandidateData). (found ++ option_to_list (found_by_row row a)) ++ later) none ∙ append-nil (found ++ option_to_list (found_by_row row a)) in
        stepped now turn found all false (Named true (fci_data a)) made.read refl on ends (behind (goes image now (select_command (which turn) row.name)) (made.kept ∙ same))

    selects_app : (turn app : ℕ) (a : AppData) (now : Now) → directory_asked image (which turn) row.name ≡ None → is_behind_directory (phase_at image now) (which turn) ≡ false
        → finds image.apps (phase_at image now) (which turn) row.name ≡ Some app → slice_get image.apps app ≡ Some a → begins a.name row.name ≡ true → now.kept ≡ decided
        → Selects image now (which turn) row.name (Named true (fci_data a)) (Selected app)
    selects_app turn app a now plain front is at begin same =
        let rules : KeepsRules a = all_at KeepsRules image.apps app a at shows_all.rules.apps.rules in
        let held = has_state image decided app a at in
        let s : AppState = held.0 in
        let here : slice_get (state_at image now).apps.items app ≡ Some s = ap (λ (c : CardState). slice_get c.apps.items app) (same_state now same) ∙ held.1 in
        let free : s.blocked ≡ false = all_at (λ (x : AppState). x.blocked ≡ false) (totals (opening_of image) decided).apps.items app s held.1 shows_all.apps in
        let sizes = both (nat_le 5 (length a.name)) (nat_le (length a.name) 16) rules.name in
        let most : length a.name ≤ 16 = grind (arith, nat_tests, sizes.1) in
        let short : length row.name ≤ length a.name = begins_shorter a.name row.name begin in
        let some : 5 ≤ length row.name = plain_row.rules.identifier in
        let made = selects_one image now (which turn) row.name (phase_at image now) (by_name (turn == 0)) refl (good now same) plain front app a s (omega arith) (omega arith) rules is at here in
        record { read = made.read ∙ ap (λ (b : Bool). Named (not b) (fci_data a)) free; phase = made.phase; kept = made.kept }

    turn_by : (turn from : ℕ) (found : List CandidateData) (now : Now) (hit : Option ℕ) → turn ≤ from → directory_asked image (which turn) row.name ≡ None
        → is_behind_directory (phase_at image now) (which turn) ≡ false → finds image.apps (phase_at image now) (which turn) row.name ≡ hit
        → Sought image.apps row.name from hit → now.kept ≡ decided → found ++ shown_to (drop from image.apps) row ≡ all → AgainComes turn from
        → ComesTo image value now (list_on found (row ∷ rows) turn confirm)
    turn_by turn from found now hit few plain front is (absent none) same whole again =
        let made = selects_none image now (which turn) row.name (phase_at image now) (by_name (turn == 0)) refl (good now same) plain front is in
        let nothing : shown_to (drop from image.apps) row ≡ [] =
        none_shown row (drop from image.apps) (λ k b at. none (from + k) b (omega arith) (get_behind from image.apps k ∙ at)) in
        let ends : all ≡ found ++ [] = sym whole ∙ ap (λ (later : List CandidateData). found ++ later) nothing in
        stepped now turn found all false Nothing made.read refl refl ends (behind (goes image now (select_command (which turn) row.name)) (made.kept ∙ same))
    turn_by turn from found now hit few plain front is (there app a up at begin before) same whole again =
        let place : from + (app - from) ≡ app = omega arith in
        let here : slice_get (drop from image.apps) (app - from) ≡ Some a = sym (get_behind from image.apps (app - from)) ∙ ap (slice_get image.apps) place ∙ at in
        let next : from + (app - from + 1) ≡ app + 1 = omega arith in
        let rest : drop (app - from + 1) (drop from image.apps) ≡ drop (app + 1) image.apps = drop-drop (app - from + 1) from image.apps ∙ ap (λ (n : ℕ). drop n image.apps) next in
        let shown : shown_to (drop from image.apps) row ≡ cons_option (found_by_row row a) (shown_to (drop (app + 1) image.apps) row) =
        first_shown row (drop from image.apps) (app - from) a here (λ k b below there. before (from + k) b (omega arith) (omega arith) (get_behind from image.apps k ∙ there))
        ∙ ap (λ (later : List AppData). cons_option (found_by_row row a) (shown_to later row)) rest in
        found_at turn from app a found now few up at begin (selects_app turn app a now plain front is at begin same) same
        (ap (λ (later : List CandidateData). found ++ later) (sym shown) ∙ whole) again (has_next_occurrence row turn (Named true (fci_data a))) refl

    looked : (now : Now) (turn from : ℕ) → looks_from (phase_at image now) (which turn) ≡ from → finds image.apps (phase_at image now) (which turn) row.name ≡ first_named from row.name (drop from image.apps)
    looked now turn from looks = ap (λ (n : ℕ). first_named n row.name (drop n image.apps)) looks

    -- behind an application the next one is asked for
    record IsBehind (turn app : ℕ) (now : Now) : Type 0 where
      looks : looks_from (phase_at image now) (which (turn + 1)) ≡ app + 1
      front : is_behind_directory (phase_at image now) (which (turn + 1)) ≡ false
      plain : directory_asked image (which (turn + 1)) row.name ≡ None

    is_behind : (turn app : ℕ) (now : Now) → phase_at image now ≡ Selected app → IsBehind turn app now
    is_behind turn app now here =
        let later : (turn + 1 == 0) ≡ false = grind (arith, nat_tests) in
        record { looks = rw (later, here) refl; front = rw (later, here) refl; plain = rw later refl }

    turns : (fuel turn from : ℕ) (found : List CandidateData) (now : Now) → length image.apps ≤ from + fuel → turn ≤ from → directory_asked image (which turn) row.name ≡ None
        → is_behind_directory (phase_at image now) (which turn) ≡ false → looks_from (phase_at image now) (which turn) ≡ from
        → now.kept ≡ decided → found ++ shown_to (drop from image.apps) row ≡ all → ComesTo image value now (list_on found (row ∷ rows) turn confirm)
    turns zero turn from found now enough few plain front looks same whole =
        turn_by turn from found now (first_named from row.name (drop from image.apps)) few plain front (looked now turn from looks) (sought image.apps row.name from) same whole
        (λ app more at up within phase held next. absurd (omega arith))
    turns (suc fuel) turn from found now enough few plain front looks same whole =
        turn_by turn from found now (first_named from row.name (drop from image.apps)) few plain front (looked now turn from looks) (sought image.apps row.name from) same whole
        (λ app more at up within phase held next.
        let on = is_behind turn app at phase in
        turns fuel (turn + 1) (app + 1) more at (omega arith) (omega arith) on.plain on.front on.looks held next)

    row_comes : (found : List CandidateData) (now : Now) → now.kept ≡ decided → found ++ shown_to image.apps row ≡ all → ComesTo image value now (list_on found (row ∷ rows) 0 confirm)
    row_comes found now same whole =
        let plain : directory_asked image 0 row.name ≡ None = rw plain_row.other refl in
        turns (length image.apps) 0 0 found now (omega arith) (omega arith) plain refl refl same whole

  rows_come : (rows : List AidRow) → All IsPlainRow rows → (found all : List CandidateData) (now : Now) → now.kept ≡ decided → found ++ listed_in rows image.apps ≡ all
      → ComesTo image (candidates confirm all) now (list_on found rows 0 confirm)
  rows_come [] are found all now same whole =
      let ends : found ≡ all = sym (append-nil found) ∙ whole in
      done (λ later. list_end found confirm later ∙ ap (λ (found : List CandidateData). is_done (candidates confirm found) later) ends)
  rows_come (row ∷ rows) are found all now same whole =
      let more : List CandidateData = found ++ shown_to image.apps row in
      row_comes row rows (All-head IsPlainRow row rows are) more
      (λ at held. rows_come rows (All-tail IsPlainRow row rows are) more all at held (append_assoc found (shown_to image.apps row) (listed_in rows image.apps) ∙ whole))
      found now same refl

  pub list_comes : (rows : List AidRow) → All IsPlainRow rows → (now : Now) → now.kept ≡ decided → ComesTo image (candidates confirm (listed_in rows image.apps)) now (list_candidates rows confirm)
  list_comes rows are now same = comes_as (from_start rows confirm) (rows_come rows are [] (listed_in rows image.apps) now same refl)
