-- The first fault of a card's applications.
use Rattle.std.specs.Prelude.{ℕ, Bool, true, ◌+◌, ◌&&◌, if◌then◌else◌, List, [], ◌∷◌, ◌++◌, length, codes, Option, Some, None, option_map}
use Rattle.std.specs.List.{list_any}
use Rattle.std.specs.Option.{option_or}
use Rattle.std.specs.Str.{bytes_eq}
use Rattle.emv_dict.specs.Bcd.{has_digits}
use Rattle.emv_dict.specs.Pan.{is_pan_length}
use Rattle.emv_dict.specs.Settings.{is_code}
use Rattle.card_files.specs.AppRules.{is_within, is_name, is_label, is_afl, is_format, are_records, is_sum_limit, is_reference_pin, is_tries, is_second_code, is_log_size, is_log_file, is_opening}
use Rattle.card_files.specs.Directory.{is_hidden}
use Rattle.card_files.specs.Lists.{is_optional_pdol, is_cdol1, is_cdol2, leaves_room}
use Rattle.card_files.specs.Views.{AppData}

-- a key, and whether its rule holds
abbrev pub Line : Type 0
Line = List ℕ × Bool

-- The keys of an application in their order, in three parts. Where the rule is `true` any value of its type
-- keeps to it: a byte, two or sixteen bytes, a counter, a flag.

-- what stands in its files
unfoldable pub file_lines : AppData → List Line
file_lines app =
    (codes "name", is_name app.name)
    ∷ (codes "label", is_label app.label)
    ∷ (codes "priority", true)
    ∷ (codes "pdol", is_optional_pdol app.pdol)
    ∷ (codes "aip", true)
    ∷ (codes "afl", is_afl app.afl)
    ∷ (codes "gpo_format", is_format app.gpo_format)
    ∷ (codes "ac_format", is_format app.ac_format)
    ∷ (codes "cdol1", is_cdol1 app.cdol1)
    ∷ (codes "cdol2", is_cdol2 app.cdol2)
    ∷ (codes "record", are_records app.records)
    ∷ []

-- its account, its state before the first decision, and its keys
unfoldable pub state_lines : AppData → List Line
state_lines app =
    (codes "pan", is_pan_length (length app.pan))
    ∷ (codes "sequence", has_digits app.sequence)
    ∷ (codes "currency", is_code app.currency)
    ∷ (codes "counter", true)
    ∷ (codes "last_online", true)
    ∷ (codes "count_limit", true)
    ∷ (codes "sum_limit", is_sum_limit app.opening.sum_limit)
    ∷ (codes "pin", is_reference_pin app.opening.pin)
    ∷ (codes "tries", is_tries app.tries)
    ∷ (codes "blocked", true)
    ∷ (codes "ac_key", true)
    ∷ []

-- its second currency, its transaction log, and its opening state as a whole
unfoldable pub log_lines : AppData → List Line
log_lines app =
    (codes "currency_two", is_second_code app.currency app.currency_two)
    ∷ (codes "limit_two", is_sum_limit app.limit_two)
    ∷ (codes "log", is_log_size app.log && leaves_room app.log app.pdol)
    ∷ (codes "log_sfi", is_log_file app.log app.log_sfi app.records)
    ∷ (codes "opening", is_opening app.tries app.limit_two app.log app.opening)
    ∷ []

-- the key of the first line whose rule does not hold
abbrev pub first_broken : List Line → Option (List ℕ)
first_broken [] = None
first_broken (line ∷ rest) = (if line.1 then first_broken rest else Some line.0)

-- the first key of an application against its rule
unfoldable pub app_fault : AppData → Option (List ℕ)
app_fault app = first_broken (file_lines app ++ (state_lines app ++ log_lines app))

-- what is wrong with a card's applications, which are counted from 0
pub data Fault : Type 0 where
  -- so many applications
  OfCount : ℕ → Fault
  -- an application's key is against its rule
  OfField : ℕ → List ℕ → Fault
  -- an earlier application has this one's name
  OfName : ℕ → Fault
  -- no memory is left: no fault of the applications
  OfMemory : Fault

-- the first key of any application, the applications in order from this number on
abbrev pub field_fault : ℕ → List AppData → Option Fault
field_fault number [] = None
field_fault number (app ∷ apps) = option_or (option_map (OfField number) (app_fault app)) (field_fault (number + 1) apps)

-- the first application, behind these, whose name an earlier one has
abbrev pub name_fault : List AppData → List AppData → Option Fault
name_fault before [] = None
name_fault before (app ∷ apps) =
    if list_any (λ other. bytes_eq other.name app.name) before then Some (OfName (length before)) else name_fault (before ++ app ∷ []) apps

-- the first application, counted from this number on, that the directory's name would find too
abbrev pub hidden_fault : ℕ → List AppData → Option Fault
hidden_fault number [] = None
hidden_fault number (app ∷ apps) =
    if is_hidden app.name then Some (OfField number (codes "pse")) else hidden_fault (number + 1) apps

-- which is a fault of a card with a directory
abbrev pub directory_fault : Option ℕ → List AppData → Option Fault
directory_fault (Some sfi) apps = hidden_fault 0 apps
directory_fault None apps = None

-- a card's first fault: the number of applications, then all keys of all applications, then the names, and last its
-- directory
unfoldable pub image_fault : List AppData → Option ℕ → Option Fault
image_fault apps directory =
    if is_within 1 4 (length apps)
    then option_or (field_fault 0 apps) (option_or (name_fault [] apps) (directory_fault directory apps))
    else Some (OfCount (length apps))
