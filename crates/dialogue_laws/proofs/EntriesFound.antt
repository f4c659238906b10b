-- What a terminal finds by a card's directory: each application in its order, by the first row that supports it.
use Rattle.std.proofs.Common.{◌≡◌, ℕ, suc, ◌+◌, ◌-◌, ◌*◌, ◌/◌, ◌%◌, ◌≤◌, ◌==◌, not, nat_le, Bool, true, false, if◌then◌else◌, List, [], ◌∷◌, ◌++◌, length, map, slice_get, Option, Some, None, option_map, refl, sym, ap, ◌∙◌, arith, eq-eqb, append-nil, append_assoc}
use Rattle.std.specs.List.{cons_option}
use Rattle.std.proofs.lemmas.Bool.Decides.{nat_tests}
use Rattle.apdu_core.specs.Command.{CommandData, record_command}
use Rattle.app_select.specs.Candidates.{CandidateData, candidates}
use Rattle.app_select.specs.Said.{select_command}
use Rattle.card_app.specs.Answering.{instruction_answer, instruction_row}
use Rattle.card_app.specs.Files.{record_or, is_file, directory_reply, record_row}
use Rattle.card_app.specs.Session.{next_phase}
use Rattle.card_cryptogram.specs.Asked.{is_record_named}
use Rattle.card_cryptogram.specs.declared.phase.Phase.TheVariants.{Directory}
use Rattle.card_files.specs.Directory.{directory_record_bytes, directory_record}
use Rattle.emv_dict.specs.Name.{directory_name}
use Rattle.card_files.specs.ImageRules.{KeepsRules, IsImage}
use Rattle.card_files.specs.Views.{AppData, ImageData}
use Rattle.card_app.specs.PageReplies.{CardReplyData, refused, shows}
use Rattle.dialogue_laws.proofs.Answers.{Answers, answers, command_again, state_at, phase_at}
use Rattle.dialogue_laws.proofs.Choices.{all_at}
use Rattle.dialogue_laws.proofs.Directing.{reading}
use Rattle.dialogue_laws.proofs.DirectoryRead.{directory_file_again, entry_data, entry_again, entry_short}
use Rattle.dialogue_laws.proofs.Reading.{file_byte, is_named}
use Rattle.dialogue_laws.proofs.Selects.{selects_directory}
use Rattle.dialogue_laws.specs.Cards.{Now, says, goes}
use Rattle.dialogue_laws.proofs.Courses.{comes_as}
use Rattle.dialogue_laws.specs.StepAtCard.{ComesTo, done, asks}
use Rattle.emv_dict.specs.declared.purchase.AidRow.{AidRow}
use Rattle.pse_directory.specs.Directory.{listed_by, listed_in, kept_candidates, records, named, directory, done as is_done}
use Rattle.pse_directory.specs.Said.{NameSaid, Gives, RecordSaid, Past, Holds, said_file, name_response, name_said, record_response, record_said}

-- what the entries of these applications give
abbrev pub directed_in : List AidRow → List AppData → List CandidateData
directed_in rows apps = listed_in rows (map entry_data apps)

one_more : (found : List CandidateData) (one : Option CandidateData) (later : List CandidateData) → (found ++ cons_option one []) ++ later ≡ found ++ cons_option one later
one_more found None later = ap (λ (front : List CandidateData). front ++ later) (append-nil found)
one_more found (Some candidate) later = append_assoc found (candidate ∷ []) later

module _ (image : ImageData) (is_image : IsImage image) (rows : List AidRow) (confirm : Bool) (sfi : ℕ) (has : image.directory ≡ Some sfi) where
  low : (1 ≤ sfi) × (sfi ≤ 10)
  low = rw has at is_image.directory

  record_is : (now : Now) (number : ℕ) → 1 ≤ number → instruction_answer image (state_at image now) Directory (reading sfi number) ≡ record_or true (directory_record image.apps number)
  unfolding instruction_row record_row
  record_is now number some =
      let most : sfi ≤ 30 = omega (arith, low.1) in
      let file : file_byte sfi / 8 ≡ sfi = omega arith in
      ap (λ (known : Bool). let r : CardReplyData = if not known then refused 0x6A86 else directory_reply image (file_byte sfi / 8) number in r) (is_named sfi number low.0 most some)
      ∙ ap (λ (n : ℕ). directory_reply image n number) file
      ∙ ap (λ (o : Option ℕ). let r : CardReplyData = if is_file sfi o then record_or true (directory_record image.apps number) else refused 0x6A82 in r) has
      ∙ rw (eq-eqb sfi sfi refl) refl

  at_place : (now : Now) (place : ℕ) (o : Option AppData) → slice_get image.apps place ≡ o
      → instruction_answer image (state_at image now) Directory (reading sfi (place + 1)) ≡ record_or true (option_map directory_record_bytes o)
  at_place now place o is =
      let number : place + 1 - 1 ≡ place = omega arith in
      record_is now (place + 1) (omega arith) ∙ ap (λ (n : ℕ). record_or true (option_map directory_record_bytes (slice_get image.apps n))) number ∙ ap (λ (x : Option AppData). record_or true (option_map directory_record_bytes x)) is

  -- an application's record is read, and behind the last one there is none
  record Entry (now : Now) (place : ℕ) (said : RecordSaid) : Type 0 where
    read : record_said (says image now (record_command sfi (place + 1))) ≡ said
    phase : phase_at image (goes image now (record_command sfi (place + 1))) ≡ Directory

  entry_read : (now : Now) (place : ℕ) (a : AppData) → phase_at image now ≡ Directory → slice_get image.apps place ≡ Some a → Entry now place (Holds (entry_data a ∷ []))
  unfolding record_said next_phase
  entry_read now place a here is =
      let rules : KeepsRules a = all_at KeepsRules image.apps place a is is_image.apps.rules in
      let made : Answers image now (record_command sfi (place + 1)) (shows (directory_record_bytes a) 0x9000) Directory =
      answers (reading sfi (place + 1)) Directory (command_again (reading sfi (place + 1))) here (at_place now place (Some a) is) (entry_short a rules) in
      record { read = ap record_response made.read ∙ entry_again a rules; phase = made.phase }

  past_read : (now : Now) (place : ℕ) → phase_at image now ≡ Directory → slice_get image.apps place ≡ None → Entry now place Past
  unfolding record_said next_phase
  past_read now place here is =
      let none : length {A = ℕ} [] ≤ 256 = omega arith in
      let made : Answers image now (record_command sfi (place + 1)) (refused 0x6A83) Directory =
      answers (reading sfi (place + 1)) Directory (command_again (reading sfi (place + 1))) here (at_place now place None is) none in
      record { read = ap record_response made.read; phase = made.phase }

  records_come : (rest : List AppData) (place : ℕ) (found all : List CandidateData) (now : Now) → ((k : ℕ) → slice_get image.apps (place + k) ≡ slice_get rest k)
      → place + length rest ≡ length image.apps → phase_at image now ≡ Directory → found ++ directed_in rows rest ≡ all
      → ComesTo image (candidates confirm (kept_candidates all)) now (records rows confirm sfi (place + 1) found)
  unfolding records
  records_come [] place found all now stand count here whole =
      let first : place ≡ place + 0 = omega arith in
      let none : slice_get image.apps place ≡ None = ap (slice_get image.apps) first ∙ stand 0 in
      let entry = past_read now place here none in
      let same : found ≡ all = sym (append-nil found) ∙ whole in
      asks (record_command sfi (place + 1)) refl
      (done (λ later. rw entry.read (ap (λ (found : List CandidateData). is_done (candidates confirm (kept_candidates found)) later) same)))
  records_come (a ∷ rest) place found all now stand count here whole =
      let four : length image.apps ≤ 4 = is_image.apps.few in
      let first : place ≡ place + 0 = omega arith in
      let is : slice_get image.apps place ≡ Some a = ap (slice_get image.apps) first ∙ stand 0 in
      let entry = entry_read now place a here is in
      let not_last : (place + 1 == 255) ≡ false = grind (arith, nat_tests) in
      let behind : (k : ℕ) → slice_get image.apps (place + 1 + k) ≡ slice_get rest k =
      (λ k. let same : place + 1 + k ≡ place + suc k = omega arith in ap (slice_get image.apps) same ∙ stand (suc k)) in
      let left : place + 1 + length rest ≡ length image.apps = omega (arith, count) in
      asks (record_command sfi (place + 1)) refl
      (comes_as (λ later. sym (rw (entry.read, not_last) refl))
      (records_come rest (place + 1) (found ++ directed_in rows (a ∷ [])) all (goes image now (record_command sfi (place + 1))) behind left entry.phase
      (one_more found (listed_by rows (entry_data a)) (directed_in rows rest) ∙ whole)))

  pub directory_comes : (now : Now) → (state_at image now).blocked ≡ false → ComesTo image (candidates confirm (kept_candidates (directed_in rows image.apps))) now (directory rows confirm)
  unfolding directory name_said
  directory_comes now well =
      let made = selects_directory image now sfi well has in
      let read : name_said (says image now (select_command 0 directory_name)) ≡ Gives sfi =
      ap name_response made.answer.read ∙ ap said_file (directory_file_again sfi low.0 low.1) in
      asks (select_command 0 directory_name) refl
      (comes_as (λ later. sym (ap (λ (said : NameSaid). named said (λ n. records rows confirm n 1 [] later) later) read))
      (records_come image.apps 0 [] (directed_in rows image.apps) (goes image now (select_command 0 directory_name))
      (λ k. let same : 0 + k ≡ k = omega arith in ap (slice_get image.apps) same) (omega arith) made.selects.phase refl))
