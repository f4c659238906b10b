-- A card with which a purchase comes to a decision (EMV 4.3 Book 3 sections 10.1, 10.2).
use Rattle.std.specs.Prelude.{◌≡◌, ◌≢◌, ℕ, ◌<◌, ◌≤◌, false, nat_eq, IsTrue, List, length, map, slice_get, Option, Some, None, Contains, Result, Ok, Err}
use Rattle.std.specs.List.{All, starts_with}
use Rattle.app_select.specs.Candidates.{CandidateData, is_allowed}
use Rattle.app_select.specs.Said.{is_supported}
use Rattle.card_app.specs.Files.{record_or}
use Rattle.card_app.specs.OwnLists.{cdol_of}
use Rattle.card_files.specs.Files.{opening_of, record_in, has_record_of}
use Rattle.card_files.specs.Views.{AppData, ImageData}
use Rattle.card_app.specs.PageReplies.{answer_said}
use Rattle.card_state.specs.Decisions.{Decided}
use Rattle.card_state.specs.Totals.{totals}
use Rattle.card_state.specs.declared.state.AppState.{AppState}
use Rattle.card_state.specs.declared.state.CardState.{CardState}
use Rattle.emv_dict.specs.declared.purchase.AidRow.{AidRow}
use Rattle.env_map.specs.Entries.{value_of}
use Rattle.object_lists.specs.CardRead.{ReadCard}
use Rattle.object_lists.specs.DolEntries.{DolEntry, dol_of, total_of}
use Rattle.object_lists.specs.declared.dol.DolFault.{DolFault}
use Rattle.read_records.specs.Afl.{RecordPlace}
use Rattle.read_records.specs.DataRead.{card_read}
use Rattle.read_records.specs.Options.{Opened, profile_and_locator}
use Rattle.terminal_state.specs.Terminal.{Outset}

-- no application's name begins another's
abbrev pub HaveApartNames : List AppData → Type 0
HaveApartNames apps =
    (i j : ℕ) (a b : AppData) → slice_get apps i ≡ Some a → slice_get apps j ≡ Some b → i ≢ j
    → starts_with nat_eq b.name a.name ≡ false

-- how the terminal would list an application that it finds by a row
abbrev pub candidate_listed : AidRow → AppData → CandidateData
candidate_listed row a = record { row = row; name = a.name; priority = a.priority }

-- an application that can be chosen and can start a transaction: it isn't blocked, has a counter left, and a row of the
-- terminal supports it, with the cardholder's confirmation where it asks for that
pub record CanServe (image : ImageData) (state : CardState) (outset : Outset) : Type 0 where
  pub app : ℕ
  pub own : AppData
  pub now : AppState
  pub row : AidRow
  pub is : slice_get image.apps app ≡ Some own
  pub state_is : slice_get state.apps.items app ≡ Some now
  pub unblocked : now.blocked ≡ false
  pub counter : now.counter < 65535
  pub listed : Contains outset.settings.aids row
  pub supported : IsTrue (is_supported row.name row.partial own.name)
  pub allowed : IsTrue (is_allowed outset.purchase.confirm (candidate_listed row own))

-- the card's answer to READ RECORD at this place
abbrev pub own_record : AppData → RecordPlace → List ℕ
own_record a place = (answer_said (record_or (has_record_of place.sfi a.records) (record_in place.sfi place.number a.records))).answer

-- the records that reading begins with, and what the application's own ones make of it
pub record ReadsOwn (a : AppData) : Type 0 where
  pub start : Opened
  pub card : ReadCard
  pub located : profile_and_locator a.aip a.afl ≡ Ok start
  pub read : card_read start (map (own_record a) start.left) ≡ Ok card

abbrev pub wanted_total : Result (List DolEntry) DolFault → Option ℕ
wanted_total (Ok entries) = Some (total_of entries)
wanted_total (Err fault) = None

-- how many bytes of data an object list of the card wants
abbrev pub list_total : Option (List ℕ) → Option ℕ
list_total None = None
list_total (Some list) = wanted_total (dol_of list)

-- its profile, locator and records give data without a fault; the object lists that are read want as many bytes as those
-- with which the application takes them; and in format 2 the locator has room in an answer
pub record HasWholeData (a : AppData) : Type 0 where
  pub reads : ReadsOwn a
  pub first : list_total (value_of 0x8C reads.card.entries) ≡ Some (total_of (cdol_of a.cdol1))
  pub second : list_total (value_of 0x8D reads.card.entries) ≡ Some (total_of (cdol_of a.cdol2))
  pub short : a.gpo_format ≡ 2 → length a.afl ≤ 244

-- with these decisions found, the card isn't blocked, one of its applications can serve the purchase, and each is whole
pub record WellFormed (image : ImageData) (outset : Outset) (found : List Decided) : Type 0 where
  pub unblocked : (totals (opening_of image) found).blocked ≡ false
  pub apart : HaveApartNames image.apps
  pub serves : CanServe image (totals (opening_of image) found) outset
  pub whole : All HasWholeData image.apps
