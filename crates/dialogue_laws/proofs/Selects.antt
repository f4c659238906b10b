-- What a card that isn't blocked answers to SELECT by name, and what a terminal reads in it.
use Rattle.std.proofs.Common.{◌≡◌, ℕ, ◌≤◌, Bool, true, false, not, List, [], length, slice_get, Option, Some, None, refl, sym, ap, ◌∙◌, arith, append-nil, if◌then◌else◌}
use Rattle.std.proofs.lemmas.Bool.Decides.{nat_tests}
use Rattle.apdu_core.specs.Command.{CommandData}
use Rattle.app_select.specs.Said.{SaidData, Named, Nothing, said_fci, said_response, select_said, select_command}
use Rattle.card_app.specs.Answering.{instruction_answer, instruction_row}
use Rattle.card_app.specs.Files.{select_row, selected_reply, is_behind_directory, directory_or, app_reply, shown_for}
use Rattle.card_app.specs.Selection.{app_found, directory_asked}
use Rattle.card_app.specs.Session.{next_phase}
use Rattle.card_cryptogram.specs.Asked.{is_by_name, is_name_size}
use Rattle.card_cryptogram.specs.declared.phase.Phase.{Phase}
use Rattle.card_cryptogram.specs.declared.phase.Phase.TheVariants.{Directory, Selected}
use Rattle.card_files.specs.Control.{fci_bytes}
use Rattle.card_files.specs.Directory.{directory_fci}
use Rattle.emv_dict.specs.Name.{directory_name}
use Rattle.card_files.specs.ImageRules.{KeepsRules}
use Rattle.card_files.specs.Views.{AppData, ImageData}
use Rattle.card_app.specs.PageReplies.{refused, shows}
use Rattle.card_state.specs.declared.state.AppState.{AppState}
use Rattle.dialogue_laws.proofs.Answers.{Answers, answers, command_again, state_at, phase_at}
use Rattle.dialogue_laws.proofs.DirectoryRead.{directory_data, directory_again, directory_short}
use Rattle.dialogue_laws.proofs.Shown.{fci_data, fci_again, fci_short}
use Rattle.dialogue_laws.specs.Cards.{Now, says, goes}

abbrev pub asked : ℕ → List ℕ → CommandData
asked p2 name = record { class = 0; ins = 0xA4; p1 = 4; p2 = p2; body = name; expects = Some 0 }

-- SELECT is answered, and the card goes on so
pub record Selects (image : ImageData) (now : Now) (p2 : ℕ) (name : List ℕ) (said : SaidData) (next : Phase) : Type 0 where
  pub read : select_said (says image now (select_command p2 name)) ≡ said
  pub phase : phase_at image (goes image now (select_command p2 name)) ≡ next
  pub kept : (goes image now (select_command p2 name)).kept ≡ now.kept

module _ (image : ImageData) (now : Now) (p2 : ℕ) (name : List ℕ) (phase : Phase) (is : is_by_name 4 p2 ≡ true) (here : phase_at image now ≡ phase)
    (well : (state_at image now).blocked ≡ false) where
  no_size : is_name_size (length name) ≡ false → instruction_answer image (state_at image now) phase (asked p2 name) ≡ refused 0x6700
  unfolding instruction_row select_row
  no_size size = rw (is, size) refl

  answered_row : is_name_size (length name) ≡ true → instruction_answer image (state_at image now) phase (asked p2 name) ≡ directory_or (directory_asked image p2 name) (app_reply image (state_at image now) phase (asked p2 name))
  unfolding instruction_row select_row
  answered_row size = rw (is, size, well) refl

  -- where the directory isn't asked for, and the card isn't behind it
  module _ (plain : directory_asked image p2 name ≡ None) (front : is_behind_directory phase p2 ≡ false) where
    selected_row : is_name_size (length name) ≡ true → instruction_answer image (state_at image now) phase (asked p2 name) ≡ selected_reply image.apps (state_at image now) (app_found image.apps phase p2 name)
    selected_row size = answered_row size ∙ ap (λ (o : Option ℕ). directory_or o (app_reply image (state_at image now) phase (asked p2 name))) plain ∙ rw front refl

    pub absent_row : app_found image.apps phase p2 name ≡ None → (size : Bool) → is_name_size (length name) ≡ size
        → instruction_answer image (state_at image now) phase (asked p2 name) ≡ refused (if size then 0x6A82 else 0x6700)
    absent_row none true size = selected_row size ∙ ap (selected_reply image.apps (state_at image now)) none
    absent_row none false size = no_size size

    refusal : (size : Bool) → Answers image now (select_command p2 name) (refused (if size then 0x6A82 else 0x6700)) (next_phase image phase (asked p2 name) [] (if size then 0x6A82 else 0x6700))
        → Selects image now p2 name Nothing phase
    unfolding select_said next_phase
    refusal true made = record { read = ap said_response made.read; phase = made.phase; kept = made.kept ∙ append-nil now.kept }
    refusal false made = record { read = ap said_response made.read; phase = made.phase; kept = made.kept ∙ append-nil now.kept }

    -- no application has this name
    pub selects_none : app_found image.apps phase p2 name ≡ None → Selects image now p2 name Nothing phase
    selects_none none =
        refusal (is_name_size (length name)) (answers (asked p2 name) phase (command_again (asked p2 name)) here (absent_row none (is_name_size (length name)) refl) (omega arith))

    found_row : (app : ℕ) (a : AppData) (s : AppState) → is_name_size (length name) ≡ true → app_found image.apps phase p2 name ≡ Some app → slice_get image.apps app ≡ Some a
        → slice_get (state_at image now).apps.items app ≡ Some s → instruction_answer image (state_at image now) phase (asked p2 name) ≡ shown_for a s
    found_row app a s size one there state = selected_row size ∙ rw (one, there, state) refl

    shown_by : (app : ℕ) (a : AppData) (blocked : Bool) → KeepsRules a → app_found image.apps phase p2 name ≡ Some app
        → Answers image now (select_command p2 name) (shows (fci_bytes a) (if blocked then 0x6283 else 0x9000)) (next_phase image phase (asked p2 name) (fci_bytes a) (if blocked then 0x6283 else 0x9000))
        → Selects image now p2 name (Named (not blocked) (fci_data a)) (Selected app)
    unfolding select_said next_phase
    shown_by app a true rules one made = record {
      read = ap said_response made.read ∙ ap (said_fci false) (fci_again a rules);
      phase = made.phase ∙ rw (plain, one) refl;
      kept = made.kept ∙ append-nil now.kept;
    }
    shown_by app a false rules one made = record {
      read = ap said_response made.read ∙ ap (said_fci true) (fci_again a rules);
      phase = made.phase ∙ rw (plain, one) refl;
      kept = made.kept ∙ append-nil now.kept;
    }

    -- the bytes in which an application is shown
    pub shows_one : (app : ℕ) (a : AppData) (s : AppState) → 1 ≤ length name → length name ≤ 16 → KeepsRules a → app_found image.apps phase p2 name ≡ Some app → slice_get image.apps app ≡ Some a
        → slice_get (state_at image now).apps.items app ≡ Some s
        → Answers image now (select_command p2 name) (shown_for a s) (next_phase image phase (asked p2 name) (fci_bytes a) (if s.blocked then 0x6283 else 0x9000))
    shows_one app a s some few rules one there state =
        let size : is_name_size (length name) ≡ true = grind (arith, nat_tests) in
        answers (asked p2 name) phase (command_again (asked p2 name)) here (found_row app a s size one there state) (fci_short a rules)

    -- the application that is found
    pub selects_one : (app : ℕ) (a : AppData) (s : AppState) → 1 ≤ length name → length name ≤ 16 → KeepsRules a → app_found image.apps phase p2 name ≡ Some app → slice_get image.apps app ≡ Some a
        → slice_get (state_at image now).apps.items app ≡ Some s → Selects image now p2 name (Named (not s.blocked) (fci_data a)) (Selected app)
    selects_one app a s some few rules one there state = shown_by app a s.blocked rules one (shows_one app a s some few rules one there state)

-- the directory, in whatever phase
pub record Directs (image : ImageData) (now : Now) (sfi : ℕ) : Type 0 where
  pub answer : Answers image now (select_command 0 directory_name) (shows (directory_fci sfi) 0x9000) Directory
  pub selects : Selects image now 0 directory_name (Named true directory_data) Directory

pub selects_directory : (image : ImageData) (now : Now) (sfi : ℕ) → (state_at image now).blocked ≡ false → image.directory ≡ Some sfi → Directs image now sfi
unfolding select_said next_phase
selects_directory image now sfi well has =
    let asks_it : directory_asked image 0 directory_name ≡ Some sfi = has in
    let is : instruction_answer image (state_at image now) (phase_at image now) (asked 0 directory_name) ≡ shows (directory_fci sfi) 0x9000 =
    answered_row image now 0 directory_name (phase_at image now) refl refl well refl
    ∙ ap (λ (o : Option ℕ). directory_or o (app_reply image (state_at image now) (phase_at image now) (asked 0 directory_name))) asks_it in
    let made = answers (asked 0 directory_name) (phase_at image now) (command_again (asked 0 directory_name)) refl is (directory_short sfi) in
    let next : next_phase image (phase_at image now) (asked 0 directory_name) (directory_fci sfi) 0x9000 ≡ Directory = rw asks_it refl in
    record {
      answer = record { says_so = made.says_so; read = made.read; phase = made.phase ∙ next; kept = made.kept };
      selects = record {
        read = ap said_response made.read ∙ ap (said_fci true) (directory_again sfi);
        phase = made.phase ∙ next;
        kept = made.kept ∙ append-nil now.kept;
      };
    }
