-- The first part of a well-formed card that a card breaks, by equations.
use Rattle.std.specs.Prelude.{ℕ, ◌+◌, ◌==◌, ◌&&◌, ◌||◌, Bool, true, false, not, nat_eq, nat_lt, if◌then◌else◌, List, [], ◌∷◌, length, map, Option, Some, None, option_map, Result, Ok, Err}
use Rattle.std.specs.List.{starts_with, list_any}
use Rattle.std.specs.Option.{option_or}
use Rattle.app_select.specs.Candidates.{is_allowed}
use Rattle.app_select.specs.Said.{is_supported}
use Rattle.card_app.specs.OwnLists.{cdol_of}
use Rattle.card_files.specs.Views.{AppData, ImageData}
use Rattle.card_state.specs.declared.state.AppState.{AppState}
use Rattle.card_state.specs.declared.state.CardState.{CardState}
use Rattle.dialogue_laws.specs.WellFormed.{candidate_listed, own_record, list_total}
use Rattle.card_check.specs.declared.fault.AppFault.{AppFault}
use Rattle.card_check.specs.declared.fault.AppFault.TheVariants.{Reading, FirstList, SecondList, Locator}
use Rattle.card_check.specs.declared.fault.CardFault.{CardFault}
use Rattle.card_check.specs.declared.fault.CardFault.TheVariants.{Blocked, Clash, Unserved, App}
use Rattle.emv_dict.specs.declared.ending.Cause.{Cause}
use Rattle.emv_dict.specs.declared.purchase.AidRow.{AidRow}
use Rattle.emv_dict.specs.Views.{SettingsData, PurchaseData}
use Rattle.env_map.specs.Entries.{value_of}
use Rattle.object_lists.specs.CardRead.{ReadCard}
use Rattle.object_lists.specs.DolEntries.{total_of}
use Rattle.read_records.specs.DataRead.{card_read}
use Rattle.read_records.specs.Options.{Opened, profile_and_locator}
use Rattle.terminal_state.specs.Terminal.{Outset}

-- a terminal with these settings, and this purchase
abbrev pub judged_outset : SettingsData → PurchaseData → Outset
judged_outset settings purchase = record { settings = settings; purchase = purchase }

-- one application's name begins the other's
abbrev pub clashes : AppData → AppData → Bool
clashes a b = starts_with nat_eq b.name a.name || starts_with nat_eq a.name b.name

-- the first application behind another one whose name clashes with that one's, both counted from these numbers
abbrev pub clash_with : ℕ → AppData → ℕ → List AppData → Option CardFault
clash_with first a second [] = None
clash_with first a second (b ∷ others) = (if clashes a b then Some (Clash first second) else clash_with first a (second + 1) others)

-- the first two applications whose names clash, counted from this number
abbrev pub name_clash : ℕ → List AppData → Option CardFault
name_clash number [] = None
name_clash number (a ∷ others) = option_or (clash_with number a (number + 1) others) (name_clash (number + 1) others)

-- a row of the terminal supports the application, with the cardholder's confirmation where it asks for that
abbrev pub is_chosen : Bool → AppData → AidRow → Bool
is_chosen confirm a row = is_supported row.name row.partial a.name && is_allowed confirm (candidate_listed row a)

-- the application in this state can be chosen, and can start a transaction
abbrev pub serves : Outset → AppData → AppState → Bool
serves outset a s = not s.blocked && (nat_lt s.counter 65535 && list_any (is_chosen outset.purchase.confirm a) outset.settings.aids)

abbrev pub some_serves : Outset → List AppData → List AppState → Bool
some_serves outset [] states = false
some_serves outset (a ∷ apps) [] = false
some_serves outset (a ∷ apps) (s ∷ states) = serves outset a s || some_serves outset apps states

abbrev pub service_fault : Bool → Option CardFault
service_fault true = None
service_fault false = Some Unserved

abbrev pub read_by : AppData → Result Opened Cause → Result ReadCard Cause
read_by a (Ok start) = card_read start (map (own_record a) start.left)
read_by a (Err cause) = Err cause

-- what the application's own profile, locator and records give, or why a terminal that reads them stops
unfoldable pub own_data : AppData → Result ReadCard Cause
own_data a = read_by a (profile_and_locator a.aip a.afl)

-- the totals are the same: the second one is there
abbrev pub is_total : ℕ → Option ℕ → Bool
is_total wanted None = false
is_total wanted (Some total) = total == wanted

-- the object list of the records wants as many bytes as the one with which the application takes the data
abbrev pub is_matched : Option (List ℕ) → List ℕ → Bool
is_matched list own = is_total (total_of (cdol_of own)) (list_total list)

-- the locator has no room in an answer of format 2
abbrev pub is_crowded : AppData → Bool
is_crowded a = (a.gpo_format == 2) && nat_lt 244 (length a.afl)

abbrev pub fault_by : AppData → Result ReadCard Cause → Option AppFault
fault_by a (Err cause) = Some (Reading cause)
fault_by a (Ok card) =
    if not (is_matched (value_of 0x8C card.entries) a.cdol1) then Some FirstList
    else if not (is_matched (value_of 0x8D card.entries) a.cdol2) then Some SecondList
    else if is_crowded a then Some Locator
    else None

-- the first part of a whole application that this one breaks
unfoldable pub app_judged_fault : AppData → Option AppFault
app_judged_fault a = fault_by a (own_data a)

-- the first application that isn't whole, counted from this number
abbrev pub apps_fault : ℕ → List AppData → Option CardFault
apps_fault number [] = None
apps_fault number (a ∷ apps) = option_or (option_map (App number) (app_judged_fault a)) (apps_fault (number + 1) apps)

-- the first part that a card in this state breaks for this purchase
unfoldable pub card_fault : ImageData → Outset → CardState → Option CardFault
card_fault image outset state =
    if state.blocked then Some Blocked
    else option_or (name_clash 0 image.apps)
    (option_or (service_fault (some_serves outset image.apps state.apps.items)) (apps_fault 0 image.apps))
