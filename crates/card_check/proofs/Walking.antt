-- Each record that reading asks for is answered by the application's own.
use Rattle.std.proofs.Common.{◌≡◌, ℕ, ◌+◌, ◌*◌, List, [], ◌∷◌, ◌++◌, length, map, drop, Option, Some, None, Result, Ok, Err, refl, ap, sym, ◌∙◌, arith, append_assoc, subst}
use Rattle.std.proofs.lemmas.List.{drop_at, length-map, map-append}
use Rattle.apdu_core.specs.Command.{record_command}
use Rattle.card_files.specs.Views.{AppData}
use Rattle.card_check.specs.Judged.{read_by}
use Rattle.dialogue_laws.specs.WellFormed.{own_record}
use Rattle.emv_dict.specs.Progress.{Wants, Stopped, Done, Leads}
use Rattle.emv_dict.specs.declared.ending.Cause.{Cause}
use Rattle.env_map.specs.Entries.{Entries}
use Rattle.object_lists.specs.CardRead.{ReadCard}
use Rattle.object_lists.specs.Checked.{objects_fault}
use Rattle.read_records.proofs.Stages.{reading-whole}
use Rattle.read_records.specs.Afl.{RecordPlace}
use Rattle.read_records.specs.DataRead.{card_unless, finished, read_on, reading}
use Rattle.read_records.specs.Options.{Opened}
use Rattle.read_records.specs.Records.{held_in_all, gathered_all}

-- some of the records are answered, and reading goes on over these objects
pub record Stands (a : AppData) (start : Opened) (entries : Entries) (left : List RecordPlace) : Type 0 where
  pub before : List RecordPlace
  pub behind : List RecordPlace
  pub split : start.left ≡ before ++ behind
  pub leads : Leads (reading start) (map (own_record a) before) (reading (record { entries = entries; left = left }))

-- none is answered
pub stands_first : (a : AppData) (start : Opened) → Stands a start start.entries start.left
stands_first a start = record { before = []; behind = start.left; split = refl; leads = λ later. refl }

-- a place behind those that are answered
pub record Asked (a : AppData) (start : Opened) (before : List RecordPlace) (command : List ℕ) : Type 0 where
  pub place : RecordPlace
  pub rest : List RecordPlace
  pub split : start.left ≡ before ++ place ∷ rest
  pub is : command ≡ record_command place.sfi place.number

asked_by : (a : AppData) (start : Opened) (before behind : List RecordPlace) (command : List ℕ) (rest : List (List ℕ)) (read : Result Entries Cause)
    → start.left ≡ before ++ behind → read_on read behind rest ≡ Wants command → Asked a start before command
asked_by a start before behind command rest (Err cause) split wants = absurd (cc)
asked_by a start before (place ∷ later) command rest (Ok entries) split wants = record { place = place; rest = later; split = split; is = cc }
asked_by a start before [] command rest (Ok entries) split wants = by (objects_fault entries) wants
  where
    by : (fault : Option Cause) → finished (card_unless entries fault) rest ≡ Wants command → Asked a start before command
    by None same = absurd (cc)
    by (Some cause) same = absurd (cc)

-- the next one is asked for
pub asked : (a : AppData) (start : Opened) (before behind : List RecordPlace) (command : List ℕ) → start.left ≡ before ++ behind
    → reading start (map (own_record a) before) ≡ Wants command → Asked a start before command
unfolding reading
asked a start before behind command split wants =
    let count : length before ≡ length (map (own_record a) before) = sym (length-map before (own_record a)) in
    let left : drop (length (map (own_record a) before)) start.left ≡ behind =
    ap (drop (length (map (own_record a) before))) split ∙ drop_at before behind (length (map (own_record a) before)) count in
    asked_by a start before behind command _ (gathered_all start.entries (held_in_all start.left (map (own_record a) before))) split (rw left at wants)

-- the command names the record's file and its number
pub named : (place : RecordPlace) (file number : ℕ) → record_command place.sfi place.number ≡ record_command file number
    → (place.sfi ≡ file) × (place.number ≡ number)
named place file number same =
    let numbers : place.number ≡ number = cc in
    let files : place.sfi * 8 + 4 ≡ file * 8 + 4 = cc in
    (omega (arith, files), numbers)

-- a record that was asked for has its answer
pub record Step (a : AppData) (start : Opened) (before : List RecordPlace) (answer : List ℕ) : Type 0 where
  pub place : RecordPlace
  pub rest : List RecordPlace
  pub split : start.left ≡ before ++ place ∷ rest
  pub is : answer ≡ own_record a place

pub next_asked : (a : AppData) (start : Opened) (entries : Entries) (left : List RecordPlace) (command : List ℕ) (stands : Stands a start entries left)
    → reading start (map (own_record a) stands.before) ≡ Wants command → Asked a start stands.before command
next_asked a start entries left command stands wants = asked a start stands.before stands.behind command stands.split wants

pub stepped : (a : AppData) (start : Opened) (entries : Entries) (left : List RecordPlace) (command : List ℕ) (file number : ℕ) (answer : List ℕ) (stands : Stands a start entries left)
    → reading start (map (own_record a) stands.before) ≡ Wants command → command ≡ record_command file number → answer ≡ own_record a (record { sfi = file; number = number })
    → Step a start stands.before answer
stepped a start entries left command file number answer stands wants names is =
    let found = next_asked a start entries left command stands wants in
    let same = named found.place file number (sym found.is ∙ names) in
    let files : found.place.sfi ≡ file = same.0 in
    let numbers : found.place.number ≡ number = same.1 in
    let here : ◌≡◌ {A = RecordPlace} (record { sfi = file; number = number }) (record { sfi = found.place.sfi; number = found.place.number }) = cc in
    record { place = found.place; rest = found.rest; split = found.split; is = is ∙ ap (own_record a) here }

module _ (a : AppData) (start : Opened) (before rest : List RecordPlace) (place : RecordPlace) (split : start.left ≡ before ++ place ∷ rest)
    (answer : List ℕ) (is : answer ≡ own_record a place) where
  -- the answers so far
  so_far : map (own_record a) before ++ answer ∷ [] ≡ map (own_record a) (before ++ place ∷ [])
  so_far = ap (λ (r : List ℕ). map (own_record a) before ++ r ∷ []) is ∙ sym (map-append (own_record a) before (place ∷ []))

  -- and those of all records
  in_all : (map (own_record a) before ++ answer ∷ []) ++ map (own_record a) rest ≡ map (own_record a) start.left
  in_all =
      ap (λ (front : List (List ℕ)). front ++ map (own_record a) rest) so_far
      ∙ sym (map-append (own_record a) (before ++ place ∷ []) rest)
      ∙ ap (map (own_record a)) (append_assoc before (place ∷ []) rest ∙ sym split)

  whole_is : reading start ((map (own_record a) before ++ answer ∷ []) ++ map (own_record a) rest) ≡ finished (read_by a (Ok start)) []
  whole_is = ap (reading start) in_all ∙ reading-whole start (map (own_record a) start.left) (length-map start.left (own_record a))

  -- reading goes on behind the answer
  pub stands_on : (entries : Entries) (left : List RecordPlace)
      → Leads (reading start) (map (own_record a) before ++ answer ∷ []) (reading (record { entries = entries; left = left })) → Stands a start entries left
  stands_on entries left leads = record {
    before = before ++ place ∷ [];
    behind = rest;
    split = split ∙ sym (append_assoc before (place ∷ []) rest);
    leads = subst (λ (answers : List (List ℕ)). Leads (reading start) answers (reading (record { entries = entries; left = left }))) so_far leads;
  }

  -- it is done
  pub done_on : (card : ReadCard) → Leads (reading start) (map (own_record a) before ++ answer ∷ []) (Done card) → read_by a (Ok start) ≡ Ok card
  done_on card leads = by (read_by a (Ok start)) (sym whole_is ∙ leads (map (own_record a) rest))
    where
      by : (found : Result ReadCard Cause) → finished found [] ≡ Done card (map (own_record a) rest) → found ≡ Ok card
      by (Ok other) same = cc
      by (Err cause) same = absurd (cc)

  -- or stops
  pub stopped_on : (cause : Cause) → Leads (reading start) (map (own_record a) before ++ answer ∷ []) (λ _. Stopped cause) → read_by a (Ok start) ≡ Err cause
  stopped_on cause leads = by (read_by a (Ok start)) (sym whole_is ∙ leads (map (own_record a) rest))
    where
      by : (found : Result ReadCard Cause) → finished found [] ≡ Stopped cause → found ≡ Err cause
      by (Ok other) same = absurd (cc)
      by (Err other) same = cc
