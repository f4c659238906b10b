-- READ RECORD of each record that a whole application's locator names.
use Rattle.std.proofs.Common.{◌≡◌, ℕ, ◌+◌, ◌*◌, ◌/◌, ◌%◌, ◌≤◌, ◌==◌, ◌&&◌, ◌||◌, Bool, true, false, not, IsTrue, if◌then◌else◌, nat_le, List, [], ◌∷◌, length, map, slice_get, Option, Some, None, option_and_then, Result, Ok, Err, refl, ap, sym, ◌∙◌, arith, leb-true, eq-eqb, le-leb, ne_eqb, eqb-true}
use Rattle.std.specs.List.{list_all}
use Rattle.std.proofs.lemmas.Bool.{and_parts, and_from, not_from_false}
use Rattle.apdu_core.specs.Command.{record_command, CommandData}
use Rattle.apdu_core.specs.Response.{response_of}
use Rattle.card_app.specs.Answering.{instruction_answer, instruction_row}
use Rattle.card_app.specs.Files.{is_log_of, log_row_at, row_or, app_record, record_or, record_row}
use Rattle.card_app.specs.Session.{next_phase}
use Rattle.card_cryptogram.specs.Asked.{is_record_named}
use Rattle.card_cryptogram.specs.declared.phase.Phase.TheVariants.{Started}
use Rattle.card_files.specs.AppRules.{is_within, has_size, is_record, has_twins, most_image_records, are_apart, are_records, is_log_file}
use Rattle.card_files.specs.Files.{record_in, has_record_of, record_of, has_file}
use Rattle.card_files.specs.ImageRules.{KeepsRules}
use Rattle.card_files.specs.Views.{AppData, RecordData, ImageData}
use Rattle.card_app.specs.PageReplies.{CardReplyData, refused, shows, answer_said}
use Rattle.card_state.specs.declared.state.CardState.{CardState}
use Rattle.emv_dict.specs.declared.ending.Cause.{Cause}
use Rattle.emv_dict.specs.declared.ending.Cause.TheVariants.{Status}
use Rattle.env_map.specs.Entries.{Entries}
use Rattle.object_lists.specs.CardRead.{ReadCard, card_of_objects}
use Rattle.read_records.proofs.Gathering.{then_read, gathered_all-then}
use Rattle.read_records.proofs.Stages.{record_taken, all_read}
use Rattle.read_records.specs.Afl.{RecordPlace}
use Rattle.object_lists.specs.Checked.{objects_fault}
use Rattle.read_records.specs.DataRead.{card_unless, card_from, card_read, reading}
use Rattle.read_records.specs.Options.{Opened}
use Rattle.read_records.specs.Records.{held_in, held_in_all, gathered_all}
use Rattle.dialogue_laws.proofs.Answers.{Answers, answers, command_again, state_at, phase_at}
use Rattle.dialogue_laws.proofs.Runs.{Runs, done, asks, runs_as}
use Rattle.dialogue_laws.specs.Cards.{Now, says, goes}
use Rattle.dialogue_laws.specs.WellFormed.{own_record}

-- what the rules say of a record that is there
record Limits (sfi number : ℕ) (bytes : List ℕ) : Type 0 where
  file : 1 ≤ sfi
  last : sfi ≤ 30
  first : 1 ≤ number
  room : length bytes ≤ 256

limits_of : (r : RecordData) → is_record r ≡ true → Limits r.sfi r.number r.bytes
limits_of r is =
    let parts = and_parts (is_within 1 30 r.sfi) (is_within 1 255 r.number && has_size 1 256 r.bytes) is in
    let file = and_parts (nat_le 1 r.sfi) (nat_le r.sfi 30) parts.0 in
    let others = and_parts (is_within 1 255 r.number) (has_size 1 256 r.bytes) parts.1 in
    let number = and_parts (nat_le 1 r.number) (nat_le r.number 255) others.0 in
    let size = and_parts (nat_le 1 (length r.bytes)) (nat_le (length r.bytes) 256) others.1 in
    record {
      file = leb-true 1 r.sfi file.0;
      last = leb-true r.sfi 30 file.1;
      first = leb-true 1 r.number number.0;
      room = leb-true (length r.bytes) 256 size.1;
    }

limits_by : (r : RecordData) (sfi number : ℕ) (bytes : List ℕ) (rest : Option (List ℕ)) (test : Bool) → (r.sfi == sfi && r.number == number) ≡ test
    → Limits r.sfi r.number r.bytes → (rest ≡ Some bytes → Limits sfi number bytes) → (if test then Some r.bytes else rest) ≡ Some bytes → Limits sfi number bytes
limits_by r sfi number bytes rest true is own behind found =
    let parts = and_parts (r.sfi == sfi) (r.number == number) is in
    let file : r.sfi ≡ sfi = eqb-true r.sfi sfi parts.0 in
    let here : r.number ≡ number = eqb-true r.number number parts.1 in
    let content : r.bytes ≡ bytes = cc in
    let size : length r.bytes ≡ length bytes = ap length content in
    let file_first = own.file in
    let file_last = own.last in
    let number_first = own.first in
    let room = own.room in
    record { file = omega arith; last = omega arith; first = omega arith; room = omega arith }
limits_by r sfi number bytes rest false is own behind found = behind found

limits_in : (sfi number : ℕ) (rs : List RecordData) (bytes : List ℕ) → list_all is_record rs ≡ true → record_in sfi number rs ≡ Some bytes → Limits sfi number bytes
limits_in sfi number [] bytes all found = absurd (cc found)
limits_in sfi number (r ∷ rs) bytes all found =
    let parts = and_parts (is_record r) (list_all is_record rs) all in
    limits_by r sfi number bytes (record_in sfi number rs) (r.sfi == sfi && r.number == number) refl (limits_of r parts.0) (limits_in sfi number rs bytes parts.1) found

limits_for : (a : AppData) (sfi number : ℕ) (bytes : List ℕ) → IsTrue (are_records a.records) → record_in sfi number a.records ≡ Some bytes → Limits sfi number bytes
limits_for a sfi number bytes rule found =
    let parts = and_parts (nat_le (length a.records) most_image_records) (are_apart a.records) rule in
    let apart = and_parts (list_all is_record a.records) (not (has_twins a.records)) parts.1 in
    limits_in sfi number a.records bytes apart.0 found

abbrev pub file_byte : ℕ → ℕ
file_byte sfi = sfi * 8 + 4

pub file_named : (sfi : ℕ) → file_byte sfi / 8 ≡ sfi
file_named sfi = omega arith

pub is_named : (sfi number : ℕ) → 1 ≤ sfi → sfi ≤ 30 → 1 ≤ number → is_record_named number (file_byte sfi) ≡ true
is_named sfi number file last first =
    let low : (file_byte sfi % 8 == 4) ≡ true = eq-eqb (file_byte sfi % 8) 4 (omega arith) in
    let high : file_byte sfi / 8 ≡ sfi = file_named sfi in
    let some : not (file_byte sfi / 8 == 0) ≡ true = not_from_false (file_byte sfi / 8 == 0) (ne_eqb (file_byte sfi / 8) 0 (λ e. omega arith)) in
    let few : nat_le (file_byte sfi / 8) 30 ≡ true = le-leb (file_byte sfi / 8) 30 (omega arith) in
    let counted : not (number == 0) ≡ true = not_from_false (number == 0) (ne_eqb number 0 (λ e. omega arith)) in
    and_from (not (number == 0)) _ counted (and_from (file_byte sfi % 8 == 4) _ low (and_from (not (file_byte sfi / 8 == 0)) _ some few))

abbrev command_for : RecordPlace → CommandData
command_for place = record { class = 0; ins = 0xB2; p1 = place.number; p2 = file_byte place.sfi; body = []; expects = Some 0 }

-- a file with a record isn't that of the log
has_file_of : (sfi number : ℕ) (rs : List RecordData) (bytes : List ℕ) → record_in sfi number rs ≡ Some bytes → has_record_of sfi rs ≡ true
has_file_of sfi number [] bytes found = absurd (cc found)
has_file_of sfi number (r ∷ rs) bytes found = by (r.sfi == sfi) (r.number == number) found (λ behind. has_file_of sfi number rs bytes behind)
  where
    by : (file here : Bool) → (if file && here then Some r.bytes else record_in sfi number rs) ≡ Some bytes → (record_in sfi number rs ≡ Some bytes → has_record_of sfi rs ≡ true)
        → (file || has_record_of sfi rs) ≡ true
    by true here found later = refl
    by false here found later = later found

no_row : (a : AppData) (sfi number : ℕ) (bytes : List ℕ) → IsTrue (is_log_file a.log a.log_sfi a.records) → record_in sfi number a.records ≡ Some bytes
    → is_log_of sfi (Some a) ≡ false
no_row a sfi number bytes rule found =
    by (a.log == 0) (a.log_sfi == sfi) refl (and_parts (is_within 11 30 a.log_sfi) (a.log == 0 || not (has_record_of a.log_sfi a.records)) rule).1
  where
    by : (none same : Bool) → (a.log_sfi == sfi) ≡ same → (none || not (has_record_of a.log_sfi a.records)) ≡ true → (not none && same) ≡ false
    by true same is apart = refl
    by false false is apart = refl
    by false true is apart =
        let there : has_record_of a.log_sfi a.records ≡ true =
        ap (λ (n : ℕ). has_record_of n a.records) (eqb-true a.log_sfi sfi is) ∙ has_file_of sfi number a.records bytes found in
        absurd (cc (sym apart ∙ ap not there))

row_is : (image : ImageData) (state : CardState) (app : ℕ) (a : AppData) (place : RecordPlace) (bytes : List ℕ) → slice_get image.apps app ≡ Some a
    → record_in place.sfi place.number a.records ≡ Some bytes → IsTrue (is_log_file a.log a.log_sfi a.records) → Limits place.sfi place.number bytes
    → instruction_answer image state (Started app) (command_for place) ≡ shows bytes 0x9000
unfolding instruction_row record_row
row_is image state app a place bytes there found rule within =
    ap (λ (named : Bool). let r : CardReplyData = if not named then refused 0x6A86 else app_record image state app (file_byte place.sfi / 8) place.number in r)
    (is_named place.sfi place.number within.file within.last within.first)
    ∙ ap (λ (sfi : ℕ). app_record image state app sfi place.number) (file_named place.sfi)
    ∙ ap (λ (log : Bool). let r : CardReplyData = if log then row_or (log_row_at state app place.number) else record_or (has_file image.apps app place.sfi) (record_of image.apps app place.sfi place.number) in r)
    (ap (is_log_of place.sfi) there ∙ no_row a place.sfi place.number bytes rule found)
    ∙ ap (record_or (has_file image.apps app place.sfi)) (ap (option_and_then (λ b. record_in place.sfi place.number b.records)) there ∙ found)

-- a record that reads without a fault is there
not_there : (sfi : ℕ) (entries more : Entries) (in_file : Bool) → gathered_all entries (held_in sfi (answer_said (record_or in_file None)).answer) ≡ Ok more → ⊥
unfolding held_in response_of
not_there sfi entries more true read = let fault : ◌≡◌ {A = Result Entries Cause} (Err (Status 0x6A83)) (Ok more) = read in cc
not_there sfi entries more false read = let fault : ◌≡◌ {A = Result Entries Cause} (Err (Status 0x6A82)) (Ok more) = read in cc

abbrev IsThere : AppData → RecordPlace → Type 0
IsThere a place = (bytes : List ℕ) × (record_in place.sfi place.number a.records ≡ Some bytes)

there_by : (a : AppData) (place : RecordPlace) (entries more : Entries) (found : Option (List ℕ)) → record_in place.sfi place.number a.records ≡ found
    → gathered_all entries (held_in place.sfi (own_record a place)) ≡ Ok more → IsThere a place
there_by a place entries more (Some bytes) is read = (bytes, is)
there_by a place entries more None is read =
    absurd (not_there place.sfi entries more (has_record_of place.sfi a.records)
    (ap (λ (o : Option (List ℕ)). gathered_all entries (held_in place.sfi (answer_said (record_or (has_record_of place.sfi a.records) o)).answer)) (sym is) ∙ read))

-- the card's answer is the application's own record
record OwnAnswer (image : ImageData) (a : AppData) (app : ℕ) (now : Now) (place : RecordPlace) : Type 0 where
  same : says image now (record_command place.sfi place.number) ≡ own_record a place
  phase : phase_at image (goes image now (record_command place.sfi place.number)) ≡ Started app

own_answer : (image : ImageData) (a : AppData) (app : ℕ) (now : Now) (place : RecordPlace) → KeepsRules a → slice_get image.apps app ≡ Some a
    → phase_at image now ≡ Started app → IsThere a place → OwnAnswer image a app now place
unfolding next_phase
own_answer image a app now place rules there here (bytes, found) =
    let within = limits_for a place.sfi place.number bytes rules.records found in
    let ans : Answers image now (record_command place.sfi place.number) (shows bytes 0x9000) (Started app) =
    answers (command_for place) (Started app) (command_again (command_for place)) here (row_is image (state_at image now) app a place bytes there found rules.log_sfi within) within.room in
    record {
      same = ans.says_so ∙ ap (λ (o : Option (List ℕ)). (answer_said (record_or (has_record_of place.sfi a.records) o)).answer) (sym found);
      phase = ans.phase;
    }

module _ (image : ImageData) (a : AppData) (app : ℕ) (rules : KeepsRules a) (there : slice_get image.apps app ≡ Some a) (card : ReadCard) where
  -- the data of the card were read, and the application stays started
  abbrev pub IsOwn : Now → ReadCard → Type 0
  IsOwn at read = (read ≡ card) × (phase_at image at ≡ Started app)

  abbrev opened_with : Entries → List RecordPlace → Opened
  opened_with entries left = record { entries = entries; left = left }

  read_all : (entries : Entries) (now : Now) (fault : Option Cause) → objects_fault entries ≡ fault → card_unless entries fault ≡ Ok card → phase_at image now ≡ Started app
      → Runs image IsOwn now (reading (opened_with entries []))
  read_all entries now None right read here =
      done (card_of_objects entries) (all_read (reading (opened_with entries [])) [] entries right (λ later. refl)) (cc, here)
  read_all entries now (Some cause) wrong read here = absurd (cc read)

  -- one record, and those behind it
  read_one : (place : RecordPlace) (left : List RecordPlace) (entries : Entries) (now : Now) (first : Result Entries Cause)
      → ((more : Entries) (at : Now) → card_read (opened_with more left) (map (own_record a) left) ≡ Ok card → phase_at image at ≡ Started app
      → Runs image IsOwn at (reading (opened_with more left)))
      → gathered_all entries (held_in place.sfi (own_record a place)) ≡ first
      → card_from (then_read first (λ more. gathered_all more (held_in_all left (map (own_record a) left)))) ≡ Ok card → phase_at image now ≡ Started app
      → Runs image IsOwn now (reading (opened_with entries (place ∷ left)))
  unfolding reading card_read then_read
  read_one place left entries now (Ok more) others is read here =
      let own = own_answer image a app now place rules there here (there_by a place entries more (record_in place.sfi place.number a.records) refl is) in
      let put : gathered_all entries (held_in place.sfi (says image now (record_command place.sfi place.number))) ≡ Ok more =
      ap (λ (answer : List ℕ). gathered_all entries (held_in place.sfi answer)) own.same ∙ is in
      asks (record_command place.sfi place.number) refl
      (runs_as (λ later. sym (record_taken (reading (opened_with entries (place ∷ left))) [] entries more place left (says image now (record_command place.sfi place.number)) (λ l. refl) put later))
      (others more (goes image now (record_command place.sfi place.number)) read own.phase))
  read_one place left entries now (Err cause) others is read here = absurd (cc read)

  pub reading_runs : (left : List RecordPlace) (entries : Entries) (now : Now) → card_read (opened_with entries left) (map (own_record a) left) ≡ Ok card
      → phase_at image now ≡ Started app → Runs image IsOwn now (reading (opened_with entries left))
  unfolding card_read
  reading_runs [] entries now read here = read_all entries now (objects_fault entries) refl read here
  reading_runs (place ∷ left) entries now read here =
      let own = held_in place.sfi (own_record a place) in
      let split = gathered_all-then own.objects own.fault (held_in_all left (map (own_record a) left)) entries in
      read_one place left entries now (gathered_all entries own) (λ more at. reading_runs left more at) refl (sym (ap card_from split) ∙ read) here
