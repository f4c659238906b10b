-- A card that is read has both object lists, and they can be read.
use Rattle.std.proofs.Common.{◌≡◌, refl, ℕ, Bool, true, false, if◌then◌else◌, List, [], ◌∷◌, length, Option, Some, None, is_some, Result, Ok, Err, is_ok}
use Rattle.std.specs.Prelude.{nat_le}
use Rattle.std.specs.List.{AllByRecursion}
use Rattle.std.specs.Option.{option_or}
use Rattle.ber_tlv.proofs.ReadAgain.{both}
use Rattle.dialogue_laws.proofs.Giving.{Gives}
use Rattle.dialogue_laws.specs.Shadows.{HasList}
use Rattle.emv_dict.specs.declared.ending.Cause.{Cause}
use Rattle.emv_dict.specs.declared.ending.Cause.TheVariants.{Missing}
use Rattle.env_map.specs.Entries.{Entries, value_of}
use Rattle.object_lists.specs.CardRead.{ReadCard, card_of_objects}
use Rattle.object_lists.specs.Checked.{mandatory, missing_from, checked, passes_if_there, wrong_cause, first_wrong, objects_fault}
use Rattle.object_lists.specs.DolEntries.{DolEntry, dol_of}
use Rattle.object_lists.specs.Forms.{is_object_list}
use Rattle.object_lists.specs.declared.dol.DolFault.{DolFault}
use Rattle.read_records.specs.Afl.{RecordPlace}
use Rattle.read_records.specs.DataRead.{card_unless, finished, read_on, reading}
use Rattle.read_records.specs.Options.{Opened}
use Rattle.read_records.specs.Records.{held_in_all, gathered_all}

abbrev pub HasLists : ReadCard → Type 0
HasLists card = HasList 0x8C card × HasList 0x8D card

if_none : {A : Type 0} (test : Bool) (rest : Option A) (fault : A) → (if test then rest else Some fault) ≡ None → (test ≡ true) × (rest ≡ None)
if_none true rest fault none = (refl, none)
if_none false rest fault none = absurd (cc none)

either_none : {A : Type 0} (first second : Option A) → option_or first second ≡ None → (first ≡ None) × (second ≡ None)
either_none None second none = (refl, none)
either_none (Some fault) second none = absurd (cc none)

-- no object is missing, so the first is there and none of the others is missing
there : (tag : ℕ) (tags : List ℕ) (entries : Entries) → missing_from (tag ∷ tags) entries ≡ None → (is_some (value_of tag entries) ≡ true) × (missing_from tags entries ≡ None)
there tag tags entries none = if_none (is_some (value_of tag entries)) (missing_from tags entries) (Missing (record { 0 = tag })) none

-- the first object that is there and doesn't pass, by a test of any kind
abbrev wrong_by : {C : Type 0} → (C → Option (List ℕ) → Bool) → (C → ℕ → Cause) → List (ℕ × C) → Entries → Option Cause
wrong_by test cause_of [] entries = None
wrong_by test cause_of (row ∷ rows) entries = (if test row.1 (value_of row.0 entries) then wrong_by test cause_of rows entries else Some (cause_of row.1 row.0))

-- where there is none, each passes
all_pass : {C : Type 0} (test : C → Option (List ℕ) → Bool) (cause_of : C → ℕ → Cause) (rows : List (ℕ × C)) (entries : Entries) → wrong_by test cause_of rows entries ≡ None
    → AllByRecursion (λ row. test row.1 (value_of row.0 entries) ≡ true) rows
all_pass test cause_of [] entries none = tt
all_pass test cause_of (row ∷ rows) entries none =
    let parts = if_none (test row.1 (value_of row.0 entries)) (wrong_by test cause_of rows entries) (cause_of row.1 row.0) none in
    (parts.0, all_pass test cause_of rows entries parts.1)

read_list : (read : Result (List DolEntry) DolFault) → is_ok read ≡ true → (dol : List DolEntry) × (read ≡ Ok dol)
read_list (Ok dol) is = (dol, refl)
read_list (Err fault) is = absurd (cc is)

value_there : (found : Option (List ℕ)) → is_some found ≡ true → (value : List ℕ) × (found ≡ Some value)
value_there None is = absurd (cc is)
value_there (Some value) is = (value, refl)

list_in : (tag : ℕ) (card : ReadCard) (list : List ℕ) → value_of tag card.entries ≡ Some list → is_object_list list ≡ true → HasList tag card
list_in tag card list is_there is =
    let read = read_list (dol_of list) (both (nat_le (length list) 255) (is_ok (dol_of list)) is).1 in
    (list, read.0, is_there, read.1)

-- the sixth and the seventh object that are tried are the lists
has_lists : (entries : Entries) → objects_fault entries ≡ None → HasLists (card_of_objects entries)
unfolding objects_fault first_wrong checked
has_lists entries none =
    let parts = either_none (missing_from mandatory entries) (first_wrong checked entries) none in
    let days = there 0x5F24 (0x5A ∷ 0x8C ∷ 0x8D ∷ []) entries parts.0 in
    let numbers = there 0x5A (0x8C ∷ 0x8D ∷ []) entries days.1 in
    let first_there = there 0x8C (0x8D ∷ []) entries numbers.1 in
    let second_there = there 0x8D [] entries first_there.1 in
    let pass = all_pass passes_if_there wrong_cause checked entries parts.1 in
    let first = value_there (value_of 0x8C entries) first_there.0 in
    let second = value_there (value_of 0x8D entries) second_there.0 in
    let first_is : is_object_list first.0 ≡ true = rw first.1 at pass.1.1.1.1.1.0 in
    let second_is : is_object_list second.0 ≡ true = rw second.1 at pass.1.1.1.1.1.1.0 in
    (list_in 0x8C (card_of_objects entries) first.0 first.1 first_is, list_in 0x8D (card_of_objects entries) second.0 second.1 second_is)

finished_gives : (entries : Entries) (fault : Option Cause) (rest : List (List ℕ)) → objects_fault entries ≡ fault → Gives HasLists (finished (card_unless entries fault) rest)
finished_gives entries None rest none = has_lists entries none
finished_gives entries (Some cause) rest wrong = tt

read_on_gives : (read : Result Entries Cause) (left : List RecordPlace) (rest : List (List ℕ)) → Gives HasLists (read_on read left rest)
read_on_gives (Err cause) left rest = tt
read_on_gives (Ok entries) (place ∷ left) rest = tt
read_on_gives (Ok entries) [] rest = finished_gives entries (objects_fault entries) rest refl

pub reading_gives : (start : Opened) (answers : List (List ℕ)) → Gives HasLists (reading start answers)
unfolding reading
reading_gives start answers = read_on_gives (gathered_all start.entries (held_in_all start.left answers)) _ _
