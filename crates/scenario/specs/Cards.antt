-- The tables of a card, of its applications and of their records.
use Rattle.std.specs.Prelude.{ℕ, ◌+◌, List, [], ◌∷◌, ◌++◌, map, codes, Bool, true, false, ◌&&◌, not, nat_le, Option, Some, None, is_some, Result, Ok, Err, if◌then◌else◌}
use Rattle.std.specs.List.{list_any}
use Rattle.std.specs.Str.{bytes_eq}
use Rattle.card_files.specs.AppRules.{is_pair, most_afl, most_image_records, reference_pin}
use Rattle.card_files.specs.Directory.{is_hidden}
use Rattle.card_files.specs.Lists.{has_all, cdol1_entries, cdol2_entries, most_data, most_pdol, most_cdol}
use Rattle.card_files.specs.Views.{RecordData, AppData, ImageData}
use Rattle.card_state.specs.declared.state.AppState.{AppState}
use Rattle.card_keys.specs.Master.{master_key_of}
use Rattle.emv_dict.specs.Bcd.{two_digits}
use Rattle.emv_dict.specs.Pan.{least_pan, most_pan}
use Rattle.emv_dict.specs.Settings.{most_amount}
use Rattle.issuer_host.specs.declared.keys.HostKeys.{HostKeys}
use Rattle.object_lists.specs.DolEntries.{DolEntry, dol_of, total_of}
use Rattle.object_lists.specs.declared.dol.DolFault.{DolFault}
use Rattle.scenario.specs.Extras.{extras_of}
use Rattle.scenario.specs.declared.extras.Extras.{Extras}
use Rattle.toml.specs.Data.{Data, Items, no_items, item, Members, get_member}
use Rattle.scenario_plan.specs.Cards.{CardData, no_image}
use Rattle.scenario_fields.specs.Fault.{◌>>=◌, keep_if}
use Rattle.scenario_fields.specs.Fields.{absent, number_at, number_or, optional_number, listed_or, flag_or, text_at, digits_at, optional_digits, code_at, bytes_at, optional_bytes, array_at, each, only}
use Rattle.scenario_fields.specs.TablePaths.{item_path, at_top, in_card, in_app, in_record}
use Rattle.scenario_fields.specs.Value.{bytes_of, table_of}
use Rattle.scenario_fields.specs.declared.fault.ScenarioFault.{ScenarioFault}
use Rattle.scenario_fields.specs.declared.fault.ScenarioFault.TheVariants.{BadValue, OutOfLimit}
use Rattle.scenario_fields.specs.declared.spot.Characters.TheVariants.{LowercaseOrDigit, Printable}

-- an object list that can be read, wants at most 252 bytes of data, and has these entries
abbrev pub list_with : List ℕ → List DolEntry → List ℕ → Result (List DolEntry) DolFault → Result (List ℕ) ScenarioFault
list_with path wanted bytes (Err fault) = Err (BadValue path)
list_with path wanted bytes (Ok entries) =
    if not (nat_le (total_of entries) most_data) then Err (OutOfLimit path)
    else if has_all wanted entries then Ok bytes
    else Err (BadValue path)

unfoldable pub list_of : List ℕ → List DolEntry → List ℕ → Result (List ℕ) ScenarioFault
list_of path wanted bytes = list_with path wanted bytes (dol_of bytes)

abbrev pub list_if_there : List ℕ → Option (List ℕ) → Result (Option (List ℕ)) ScenarioFault
list_if_there path None = Ok None
list_if_there path (Some bytes) = list_of path [] bytes >>= (λ list. Ok (Some list))

unfoldable pub pdol_at : ℕ → ℕ → Members → Result (Option (List ℕ)) ScenarioFault
pdol_at i j ms = optional_bytes (in_app i j) (codes "pdol") 0 most_pdol ms >>= list_if_there (in_app i j (codes "pdol"))

-- the object list of a GENERATE AC, which must have these entries
unfoldable pub cdol_at : List ℕ → List DolEntry → ℕ → ℕ → Members → Result (List ℕ) ScenarioFault
cdol_at key wanted i j ms = bytes_at (in_app i j) key 0 most_cdol ms >>= list_of (in_app i j key) wanted

unfoldable pub record_keys : List (List ℕ)
record_keys = codes "sfi" ∷ codes "number" ∷ codes "bytes" ∷ []

-- a record behind these: no two of one number in one file
unfoldable pub record_of_members : ℕ → ℕ → ℕ → List RecordData → Members → Result RecordData ScenarioFault
record_of_members i j k earlier ms = do
  sfi ← number_at (in_record i j k) (codes "sfi") 1 30 ms
  number ← number_at (in_record i j k) (codes "number") 1 255 ms
  bytes ← bytes_at (in_record i j k) (codes "bytes") 1 256 ms
  r ← keep_if (not (list_any (is_pair (record { sfi = sfi; number = number; bytes = bytes })) earlier)) (BadValue (in_app i j (item_path (codes "record") k [])))
      (record { sfi = sfi; number = number; bytes = bytes })
  _ ← only (in_record i j k) record_keys ms
  Ok r

unfoldable pub record_item : ℕ → ℕ → ℕ → List RecordData → Data → Result RecordData ScenarioFault
record_item i j k earlier d = table_of (in_app i j (item_path (codes "record") k [])) d >>= record_of_members i j k earlier

abbrev pub records_from : ℕ → ℕ → ℕ → List RecordData → Items → Result (List RecordData) ScenarioFault
records_from i j k earlier no_items = Ok []
records_from i j k earlier (item d ds) = do
  r ← record_item i j k earlier d
  rs ← records_from i j (k + 1) (earlier ++ r ∷ []) ds
  Ok (r ∷ rs)

-- the records of an application, no two of one number in one file, or the first fault
unfoldable pub records_at : ℕ → ℕ → Members → Result (List RecordData) ScenarioFault
records_at i j ms = do
  items ← array_at (in_app i j) (codes "record") 0 most_image_records ms
  records_from i j 0 [] items

-- what stands in an application's files
pub record FilesData : Type 0 where
  pub name : List ℕ
  pub label : List ℕ
  pub priority : Option ℕ
  pub pdol : Option (List ℕ)
  pub aip : List ℕ
  pub afl : List ℕ
  pub gpo_format : ℕ
  pub ac_format : ℕ
  pub cdol1 : List ℕ
  pub cdol2 : List ℕ
  pub records : List RecordData

-- its account
pub record HolderData : Type 0 where
  pub pan : List ℕ
  pub sequence : ℕ
  pub currency : List ℕ

-- the counters with which it opens, and its limits
pub record CountersData : Type 0 where
  pub counter : ℕ
  pub last_online : ℕ
  pub count_limit : ℕ
  pub sum_limit : ℕ

-- its PIN as a plain block or zeros, its tries, and its own key, where it has one
pub record AccessData : Type 0 where
  pub pin : List ℕ
  pub tries : ℕ
  pub blocked : Bool
  pub ac_key : Option (List ℕ)

unfoldable pub has_app_named : List ℕ → List AppData → Bool
has_app_named name apps = list_any (λ a. bytes_eq a.name name) apps

-- a name that no earlier application has
unfoldable pub new_name : ℕ → ℕ → List AppData → Members → Result (List ℕ) ScenarioFault
new_name i j earlier ms = do
  name ← bytes_at (in_app i j) (codes "name") 5 16 ms
  keep_if (not (has_app_named name earlier)) (BadValue (in_app i j (codes "name"))) name

unfoldable pub files_of : ℕ → ℕ → List AppData → Members → Result FilesData ScenarioFault
files_of i j earlier ms = do
  name ← new_name i j earlier ms
  label ← text_at (in_app i j) (codes "label") Printable 1 16 ms
  priority ← optional_number (in_app i j) (codes "priority") 0 255 ms
  pdol ← pdol_at i j ms
  aip ← bytes_at (in_app i j) (codes "aip") 2 2 ms
  afl ← bytes_at (in_app i j) (codes "afl") 0 most_afl ms
  gpo_format ← listed_or 1 (in_app i j) (codes "gpo_format") (1 ∷ 2 ∷ []) ms
  ac_format ← listed_or 1 (in_app i j) (codes "ac_format") (1 ∷ 2 ∷ []) ms
  cdol1 ← cdol_at (codes "cdol1") cdol1_entries i j ms
  cdol2 ← cdol_at (codes "cdol2") cdol2_entries i j ms
  records ← records_at i j ms
  Ok (record {
    name = name;
    label = label;
    priority = priority;
    pdol = pdol;
    aip = aip;
    afl = afl;
    gpo_format = gpo_format;
    ac_format = ac_format;
    cdol1 = cdol1;
    cdol2 = cdol2;
    records = records;
  })

-- the sequence number as the byte of its two digits
unfoldable pub sequence_at : (List ℕ → List ℕ) → Members → Result ℕ ScenarioFault
sequence_at path ms = do
  number ← number_or 0 path (codes "sequence") 0 99 ms
  Ok (two_digits number)

unfoldable pub holder_of : ℕ → ℕ → Members → Result HolderData ScenarioFault
holder_of i j ms = do
  pan ← digits_at (in_app i j) (codes "pan") least_pan most_pan ms
  sequence ← sequence_at (in_app i j) ms
  currency ← code_at (in_app i j) (codes "currency") ms
  Ok (record { pan = pan; sequence = sequence; currency = currency })

unfoldable pub counters_of : ℕ → ℕ → Members → Result CountersData ScenarioFault
counters_of i j ms = do
  counter ← number_or 0 (in_app i j) (codes "counter") 0 65535 ms
  last_online ← number_or 0 (in_app i j) (codes "last_online") 0 65535 ms
  count_limit ← number_at (in_app i j) (codes "count_limit") 0 255 ms
  sum_limit ← number_at (in_app i j) (codes "sum_limit") 0 most_amount ms
  Ok (record { counter = counter; last_online = last_online; count_limit = count_limit; sum_limit = sum_limit })

unfoldable pub access_of : ℕ → ℕ → Members → Result AccessData ScenarioFault
access_of i j ms = do
  pin ← optional_digits (in_app i j) (codes "pin") 4 12 ms
  tries ← number_or 3 (in_app i j) (codes "tries") 0 15 ms
  blocked ← flag_or false (in_app i j) (codes "blocked") ms
  ac_key ← optional_bytes (in_app i j) (codes "ac_key") 16 16 ms
  Ok (record { pin = reference_pin pin; tries = tries; blocked = blocked; ac_key = ac_key })

unfoldable pub app_keys : List (List ℕ)
app_keys =
    codes "name" ∷ codes "label" ∷ codes "priority" ∷ codes "pdol" ∷ codes "aip" ∷ codes "afl" ∷ codes "gpo_format" ∷ codes "ac_format"
    ∷ codes "cdol1" ∷ codes "cdol2" ∷ codes "record" ∷ codes "pan" ∷ codes "sequence" ∷ codes "currency" ∷ codes "counter" ∷ codes "last_online"
    ∷ codes "count_limit" ∷ codes "sum_limit" ∷ codes "pin" ∷ codes "tries" ∷ codes "blocked" ∷ codes "ac_key" ∷ codes "currency_two"
    ∷ codes "limit_two" ∷ codes "log" ∷ codes "log_sfi" ∷ []

-- the application's own key, or the one derived from the issuer's
abbrev pub own_or : List ℕ → Option (List ℕ) → List ℕ
own_or derived None = derived
own_or derived (Some key) = key

-- nothing is counted yet, and the log is empty
unfoldable pub opening_state : CountersData → AccessData → Extras → AppState
opening_state counters access extras = record {
  counter = counters.counter;
  last_online = counters.last_online;
  count = 0;
  sum = 0;
  count_limit = counters.count_limit;
  sum_limit = counters.sum_limit;
  tries = access.tries;
  blocked = access.blocked;
  auth_failed = false;
  pin = access.pin;
  sum_two = 0;
  limit_two = extras.limit_two;
  log_max = extras.log;
  log = record { items = [] };
}

-- the other keys are derived from the issuer's by account and sequence number
unfoldable pub app_with : HostKeys → FilesData → HolderData → CountersData → AccessData → Extras → AppData
app_with keys files holder counters access extras = record {
  name = files.name;
  label = files.label;
  priority = files.priority;
  pdol = files.pdol;
  aip = files.aip;
  afl = files.afl;
  gpo_format = files.gpo_format;
  ac_format = files.ac_format;
  cdol1 = files.cdol1;
  cdol2 = files.cdol2;
  records = files.records;
  pan = holder.pan;
  sequence = holder.sequence;
  currency = holder.currency;
  opening = opening_state counters access extras;
  tries = access.tries;
  ac_key = own_or (master_key_of keys.ac holder.pan holder.sequence) access.ac_key;
  currency_two = extras.currency_two;
  limit_two = extras.limit_two;
  log = extras.log;
  log_sfi = extras.log_sfi;
  mac_key = master_key_of keys.mac holder.pan holder.sequence;
  enc_key = master_key_of keys.enc holder.pan holder.sequence;
}

-- an application behind these
unfoldable pub app_of : ℕ → ℕ → HostKeys → List AppData → Members → Result AppData ScenarioFault
app_of i j keys earlier ms = do
  files ← files_of i j earlier ms
  holder ← holder_of i j ms
  counters ← counters_of i j ms
  access ← access_of i j ms
  extras ← extras_of (in_app i j) files.pdol files.records holder.currency ms
  _ ← only (in_app i j) app_keys ms
  Ok (app_with keys files holder counters access extras)

-- an application in its table, behind those before it, or its first fault
unfoldable pub app_item : ℕ → ℕ → HostKeys → List AppData → Data → Result AppData ScenarioFault
app_item i j keys earlier d = table_of (in_card i (item_path (codes "app") j [])) d >>= app_of i j keys earlier

abbrev pub apps_from : ℕ → ℕ → HostKeys → List AppData → Items → Result (List AppData) ScenarioFault
apps_from i j keys earlier no_items = Ok []
apps_from i j keys earlier (item d ds) = do
  app ← app_item i j keys earlier d
  apps ← apps_from i (j + 1) keys (earlier ++ app ∷ []) ds
  Ok (app ∷ apps)

unfoldable pub apps_at : ℕ → HostKeys → Members → Result (List AppData) ScenarioFault
apps_at i keys ms = do
  items ← array_at (in_card i) (codes "app") 1 4 ms
  apps_from i 0 keys [] items

-- an answer of a card of canned answers
unfoldable pub canned_item : (List ℕ → List ℕ) → ℕ → Data → Result (List ℕ) ScenarioFault
canned_item path j d = bytes_of (path (item_path (codes "canned") j [])) 0 258 d

-- at most 300 canned answers of a card, or the first fault
unfoldable pub canned_at : (List ℕ → List ℕ) → Members → Result (List (List ℕ)) ScenarioFault
canned_at path ms = do
  items ← array_at path (codes "canned") 0 300 ms
  each (canned_item path) 0 items

-- what a card answers by: its image; or none, and canned answers
pub record KindData : Type 0 where
  pub image : ImageData
  pub canned : Option (List (List ℕ))

-- the form of the card's state when the scenario begins
unfoldable pub version_at : (List ℕ → List ℕ) → Members → Result ℕ ScenarioFault
version_at path ms = listed_or 2 path (codes "version") (1 ∷ 2 ∷ []) ms

-- a directory's name would find one of the applications
unfoldable pub hides_one : List AppData → Bool
hides_one apps = list_any (λ a. is_hidden a.name) apps

-- a directory that hides none of the applications, or none
abbrev pub is_directory : List AppData → Option ℕ → Bool
is_directory apps None = true
is_directory apps (Some sfi) = not (hides_one apps)

-- the file of the payment system directory, where the card has one
unfoldable pub directory_at : (List ℕ → List ℕ) → List AppData → Members → Result (Option ℕ) ScenarioFault
directory_at path apps ms = do
  sfi ← optional_number path (codes "pse") 1 10 ms
  keep_if (is_directory apps sfi) (BadValue (path (codes "pse"))) sfi

-- canned answers stand alone
unfoldable pub canned_kind : (List ℕ → List ℕ) → Members → Result KindData ScenarioFault
canned_kind path ms = do
  answers ← canned_at path ms
  _ ← absent path (codes "version") ms
  _ ← absent path (codes "pse") ms
  Ok (record { image = no_image; canned = Some answers })

-- applications, with the form of their state and a directory
unfoldable pub image_kind : ℕ → HostKeys → Members → Result KindData ScenarioFault
image_kind i keys ms = do
  apps ← apps_at i keys ms
  _ ← absent (in_card i) (codes "canned") ms
  version ← version_at (in_card i) ms
  directory ← directory_at (in_card i) apps ms
  Ok (record { image = record { apps = apps; version = version; directory = directory }; canned = None })

abbrev pub has_key : List ℕ → Members → Bool
has_key key ms = is_some (get_member key ms)

-- canned answers stand in place of applications, never beside them
unfoldable pub card_kind_at : ℕ → HostKeys → Members → Result KindData ScenarioFault
card_kind_at i keys ms =
    if has_key (codes "canned") ms && not (has_key (codes "app") ms) then canned_kind (in_card i) ms else image_kind i keys ms

unfoldable pub is_name_used : List ℕ → List CardData → Bool
is_name_used name cards = list_any (λ c. bytes_eq c.name name) cards

-- a name that no earlier card has
unfoldable pub new_card_name : ℕ → List CardData → Members → Result (List ℕ) ScenarioFault
new_card_name i earlier ms = do
  name ← text_at (in_card i) (codes "name") LowercaseOrDigit 1 16 ms
  keep_if (not (is_name_used name earlier)) (BadValue (in_card i (codes "name"))) name

unfoldable pub card_keys : List (List ℕ)
card_keys = codes "name" ∷ codes "app" ∷ codes "canned" ∷ codes "version" ∷ codes "pse" ∷ []

-- a card behind these
unfoldable pub card_of : ℕ → HostKeys → List CardData → Members → Result CardData ScenarioFault
card_of i keys earlier ms = do
  name ← new_card_name i earlier ms
  kind ← card_kind_at i keys ms
  _ ← only (in_card i) card_keys ms
  Ok (record { name = name; image = kind.image; canned = kind.canned })

unfoldable pub card_item : ℕ → HostKeys → List CardData → Data → Result CardData ScenarioFault
card_item i keys earlier d = table_of (item_path (codes "card") i []) d >>= card_of i keys earlier

abbrev pub cards_from : ℕ → HostKeys → List CardData → Items → Result (List CardData) ScenarioFault
cards_from i keys earlier no_items = Ok []
cards_from i keys earlier (item d ds) = do
  card ← card_item i keys earlier d
  cards ← cards_from (i + 1) keys (earlier ++ card ∷ []) ds
  Ok (card ∷ cards)

-- all cards at their key in the document
unfoldable pub cards_at : HostKeys → Members → Result (List CardData) ScenarioFault
cards_at keys ms = do
  items ← array_at at_top (codes "card") 1 64 ms
  cards_from 0 keys [] items

-- the names of cards
unfoldable pub card_names : List CardData → List (List ℕ)
card_names cards = map (λ c. c.name) cards
