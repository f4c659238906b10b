-- GET PROCESSING OPTIONS of a whole application that is selected.
use Rattle.std.proofs.Common.{◌≡◌, ℕ, ◌≤◌, Bool, true, false, not, is_some, IsTrue, if◌then◌else◌, nat_lt, nat_le, List, [], length, slice_get, Option, Some, None, Result, Ok, Err, unwrap_or, refl, ap, sym, ◌∙◌, arith, append-nil, eq-eqb, le-leb, leb-true, ltb-false}
use Rattle.apdu_core.specs.Command.{CommandData}
use Rattle.ber_tlv.proofs.SoleItem.{sole_value-written}
use Rattle.ber_tlv.specs.Direct.{sole_value}
use Rattle.ber_tlv.specs.Left.{items_of}
use Rattle.ber_tlv.specs.Written.{written}
use Rattle.card_app.specs.Answering.{instruction_answer, instruction_row, options_row}
use Rattle.card_app.specs.Options.{is_of_size, body_for, starts, options_of}
use Rattle.card_app.specs.OwnLists.{pdol_total}
use Rattle.card_app.specs.Replies.{with_both}
use Rattle.card_app.specs.Session.{next_phase}
use Rattle.card_cryptogram.specs.declared.phase.Phase.TheVariants.{Directory, Selected, Started}
use Rattle.card_files.specs.Lists.{entries_within, fitting, is_pdol, is_optional_pdol}
use Rattle.card_files.specs.Views.{AppData, ImageData}
use Rattle.card_app.specs.PageReplies.{CardReplyData, refused, decides}
use Rattle.card_state.specs.declared.decision.Decision.TheVariants.{Started as TakesCounter}
use Rattle.card_state.specs.declared.state.AppState.{AppState}
use Rattle.card_state.specs.declared.state.CardState.{CardState}
use Rattle.dialogue_laws.proofs.Answers.{Answers, answers, command_again, state_at, phase_at}
use Rattle.dialogue_laws.proofs.OptionsRead.{options_room, options_read}
use Rattle.dialogue_laws.proofs.Runs.{Runs, done, asks, runs_as}
use Rattle.dialogue_laws.proofs.Stages.{Initiated, InitiationRuns}
use Rattle.dialogue_laws.specs.Cards.{Now, says}
use Rattle.dialogue_laws.specs.WellFormed.{HasWholeData}
use Rattle.env_map.specs.Entries.{Entries}
use Rattle.object_lists.proofs.EntryPlaces.{length-dol_data}
use Rattle.object_lists.specs.DolEntries.{DolEntry, dol_of, total_of}
use Rattle.object_lists.specs.Filled.{dol_data}
use Rattle.object_lists.specs.declared.dol.DolFault.{DolFault}
use Rattle.read_records.specs.Options.{OptionsSaid, Refused, Granted, options_command, options_data, filled_pdol, granted_by, response_said, options_said, after_options, initiated, initiating, initiating_with}

-- the entries of an object list that can be read and filled
record Entered (list : List ℕ) : Type 0 where
  entries : List DolEntry
  short : length list ≤ 200
  read : dol_of list ≡ Ok entries
  fits : total_of entries ≤ 252

some_then : (test : Bool) (rest : Option (List DolEntry)) → is_some (if test then rest else None) ≡ true → (test ≡ true) × (is_some rest ≡ true)
some_then true rest some = (refl, some)
some_then false rest some = cc

entered_by : (list : List ℕ) (read : Result (List DolEntry) DolFault) → dol_of list ≡ read → length list ≤ 200 → is_some (fitting read) ≡ true → Entered list
entered_by list (Ok entries) is short some =
    record { entries = entries; short = short; read = is; fits = leb-true (total_of entries) 252 (some_then (nat_le (total_of entries) 252) (Some entries) some).0 }
entered_by list (Err fault) is short some = cc

entered : (list : List ℕ) → IsTrue (is_pdol list) → Entered list
unfolding entries_within
entered list is =
    let parts = some_then (nat_le (length list) 200) (fitting (dol_of list)) is in
    entered_by list (dol_of list) refl (leb-true (length list) 200 parts.0) parts.1

-- the data that the command carries: as many bytes as the list wants
record Given (pdol : Option (List ℕ)) (terminal : Entries) : Type 0 where
  given : List ℕ
  is : options_data pdol terminal ≡ Some given
  size : length given ≡ pdol_total pdol

given_for : (pdol : Option (List ℕ)) (terminal : Entries) → IsTrue (is_optional_pdol pdol) → Given pdol terminal
unfolding entries_within
given_for None terminal is = record { given = []; is = refl; size = refl }
given_for (Some list) terminal is =
    let e = entered list is in
    let fits : nat_le (total_of e.entries) 252 ≡ true = le-leb (total_of e.entries) 252 e.fits in
    let short : length list ≤ 200 = e.short in
    let room : nat_le (length list) 255 ≡ true = le-leb (length list) 255 (omega arith) in
    let few : nat_le (length list) 200 ≡ true = le-leb (length list) 200 e.short in
    let within : entries_within 200 list ≡ Some e.entries = rw few (ap fitting e.read ∙ rw fits refl) in
    record {
      given = dol_data e.entries [] terminal;
      is = rw room (ap (filled_pdol terminal) e.read ∙ rw fits refl);
      size = length-dol_data e.entries [] terminal ∙ ap (λ (found : Option (List DolEntry)). total_of (unwrap_or found [])) (sym within);
    }

abbrev command_for : List ℕ → CommandData
command_for given = record { class = 0x80; ins = 0xA8; p1 = 0; p2 = 0; body = written 0x83 given; expects = Some 0 }

-- the application is asked
options_row_is : (image : ImageData) (state : CardState) (app : ℕ) (a : AppData) (s : AppState) (given : List ℕ) → slice_get image.apps app ≡ Some a
    → slice_get state.apps.items app ≡ Some s → instruction_answer image state (Selected app) (command_for given) ≡ options_of state.blocked app (written 0x83 given) a s
unfolding instruction_row options_row
options_row_is image state app a s given there now =
    ap (λ (found : Option AppData). with_both found (slice_get state.apps.items app) (options_of state.blocked app (written 0x83 given))) there
    ∙ ap (λ (found : Option AppState). with_both (Some a) found (options_of state.blocked app (written 0x83 given))) now

size_right : (given : List ℕ) (total : ℕ) → length given ≡ total → is_of_size total (sole_value 0x83 (items_of (written 0x83 given))) ≡ true
size_right given total size = ap (is_of_size total) (sole_value-written 0x83 (written 0x83 given) given refl refl) ∙ eq-eqb (length given) total size

-- it starts exactly where it has a counter left
starts_is : (a : AppData) (s : AppState) (blocked : Bool) → blocked ≡ false → s.blocked ≡ false → length (body_for a) ≤ 256 → (left : Bool) → nat_lt s.counter 65535 ≡ left
    → starts a s blocked ≡ left
starts_is a s blocked card_open app_open room true left = rw (card_open, app_open, left, le-leb (length (body_for a)) 256 room) refl
starts_is a s blocked card_open app_open room false left = rw (card_open, app_open, left) refl

abbrev answered : ℕ → AppData → Bool → CardReplyData
answered app a left = if not left then refused 0x6985 else decides app TakesCounter (body_for a) 0x9000

options_is : (app : ℕ) (a : AppData) (s : AppState) (blocked : Bool) (given : List ℕ) (left : Bool) → length given ≡ pdol_total a.pdol → starts a s blocked ≡ left
    → options_of blocked app (written 0x83 given) a s ≡ answered app a left
unfolding options_of
options_is app a s blocked given left size is =
    ap (λ (right : Bool). let r : CardReplyData = if not right then refused 0x6700 else if not (starts a s blocked) then refused 0x6985 else decides app TakesCounter (body_for a) 0x9000 in r)
    (size_right given (pdol_total a.pdol) size)
    ∙ ap (answered app a) is

module _ (image : ImageData) (a : AppData) (app : ℕ) (whole : HasWholeData a) (profile : length a.aip ≡ 2) where
  -- with a counter left it is granted, and gives its own profile and locator
  granted : (now : Now) (given : List ℕ) → Answers image now (options_command given) (answered app a true) (Started app)
      → options_said (says image now (options_command given)) ≡ Granted whole.reads.start
  unfolding options_said
  granted now given ans =
      ap response_said ans.read ∙ ap granted_by (options_read a.gpo_format a.aip a.afl profile ∙ whole.reads.located)

  refuses : (now : Now) (given : List ℕ) → Answers image now (options_command given) (answered app a false) (Selected app)
      → options_said (says image now (options_command given)) ≡ Refused
  unfolding options_said
  refuses now given ans = ap response_said ans.read

  run_by : (now : Now) (s : AppState) (given : List ℕ) (left : Bool) → nat_lt s.counter 65535 ≡ left
      → instruction_answer image (state_at image now) (Selected app) (command_for given) ≡ answered app a left → length (body_for a) ≤ 256 → phase_at image now ≡ Selected app
      → Runs image (Initiated image a whole app s now) now (initiated given)
  unfolding initiated next_phase
  run_by now s given true left is room here =
      let ans : Answers image now (options_command given) (answered app a true) (Started app) = answers (command_for given) (Selected app) (command_again (command_for given)) here is room in
      asks (options_command given) refl
      (done (Some whole.reads.start) (λ later. ap (λ (said : OptionsSaid). after_options said later) (granted now given ans)) (refl, ans.phase))
  run_by now s given false left is room here =
      let none : length {A = ℕ} [] ≤ 256 = omega arith in
      let ans : Answers image now (options_command given) (answered app a false) (Selected app) = answers (command_for given) (Selected app) (command_again (command_for given)) here is none in
      asks (options_command given) refl
      (done None (λ later. ap (λ (said : OptionsSaid). after_options said later) (refuses now given ans)) (ltb-false s.counter 65535 left, ans.phase, ans.kept ∙ append-nil now.kept))

pub initiation_runs : (image : ImageData) → InitiationRuns image
initiation_runs image a app now s terminal whole rules there state_is card_open app_open here =
    let g = given_for a.pdol terminal rules.pdol in
    let room : length (body_for a) ≤ 256 = options_room a.gpo_format a.aip a.afl rules.gpo_format rules.aip (leb-true (length a.afl) 248 rules.afl) whole.short in
    let left : Bool = nat_lt s.counter 65535 in
    let is : instruction_answer image (state_at image now) (Selected app) (command_for g.given) ≡ answered app a left =
    options_row_is image (state_at image now) app a s g.given there state_is
    ∙ options_is app a s (state_at image now).blocked g.given left g.size (starts_is a s (state_at image now).blocked card_open app_open room left refl) in
    runs_as (λ later. sym (ap (λ (filling : Option (List ℕ)). initiating_with filling later) g.is)) (run_by image a app whole rules.aip now s g.given left refl is room here)

-- the directory starts no transaction
pub directory_refuses : (image : ImageData) (now : Now) (terminal : Entries) → phase_at image now ≡ Directory
    → Runs image (λ at value. (value ≡ None) × (at.kept ≡ now.kept)) now (initiating None terminal)
unfolding initiated next_phase instruction_row options_row options_said
directory_refuses image now terminal here =
    let none : length {A = ℕ} [] ≤ 256 = omega arith in
    let ans : Answers image now (options_command []) (refused 0x6985) Directory = answers (command_for []) Directory (command_again (command_for [])) here refl none in
    asks (options_command []) refl
    (done None (λ later. ap (λ (said : OptionsSaid). after_options said later) (ap response_said ans.read)) (refl, ans.kept ∙ append-nil now.kept))
