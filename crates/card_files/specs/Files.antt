-- The files of a card's applications and their opening states (EMV 4.3 Book 3 section 5.3).
use Rattle.std.specs.Prelude.{ℕ, Bool, false, ◌==◌, ◌&&◌, if◌then◌else◌, List, [], ◌∷◌, map, slice_get, Option, Some, None, option_and_then, Contains, IsSomeAnd}
use Rattle.std.specs.List.{list_any}
use Rattle.card_state.specs.declared.state.CardState.{CardState}
use Rattle.card_files.specs.Views.{RecordData, AppData, ImageData}

-- the bytes of the first record of a file with this number
abbrev pub record_in : ℕ → ℕ → List RecordData → Option (List ℕ)
record_in sfi number [] = None
record_in sfi number (r ∷ rs) = (if r.sfi == sfi && r.number == number then Some r.bytes else record_in sfi number rs)

-- any record of the file is there
abbrev pub has_record_of : ℕ → List RecordData → Bool
has_record_of sfi rs = list_any (λ r. r.sfi == sfi) rs

-- a record of an application: none where there is no such application, file or number
abbrev pub record_of : List AppData → ℕ → ℕ → ℕ → Option (List ℕ)
record_of apps app sfi number = option_and_then (λ a. record_in sfi number a.records) (slice_get apps app)

-- the same in other words: an application has this record
abbrev pub HasRecord : List AppData → ℕ → ℕ → ℕ → List ℕ → Type 0
HasRecord apps app sfi number bytes = IsSomeAnd (slice_get apps app) (λ a. Contains a.records (record { sfi = sfi; number = number; bytes = bytes }))

abbrev pub has_file_in : ℕ → Option AppData → Bool
has_file_in sfi (Some a) = has_record_of sfi a.records
has_file_in sfi None = false

-- an application has a file of this identifier
abbrev pub has_file : List AppData → ℕ → ℕ → Bool
has_file apps app sfi = has_file_in sfi (slice_get apps app)

-- the state of a card before its first decision
abbrev pub opening_of : ImageData → CardState
opening_of image = record { blocked = false; apps = record { items = map (λ a. a.opening) image.apps } }
