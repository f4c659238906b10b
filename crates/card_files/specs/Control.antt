-- The file control information of an application (EMV 4.3 Book 1 section 11.3.4).
use Rattle.std.specs.Prelude.{◌≡◌, ℕ, ◌==◌, if◌then◌else◌, List, [], ◌∷◌, ◌++◌, map, Option, Some, None, Ok}
use Rattle.ber_tlv.specs.Item.{ItemData}
use Rattle.ber_tlv.specs.Left.{items_of}
use Rattle.ber_tlv.specs.Written.{written}
use Rattle.card_files.specs.Views.{AppData}

-- an object that may be absent
abbrev pub written_some : ℕ → Option (List ℕ) → List ℕ
written_some tag (Some value) = written tag value
written_some tag None = []

abbrev pub value_of_byte : Option ℕ → Option (List ℕ)
value_of_byte (Some byte) = Some (byte ∷ [])
value_of_byte None = None

-- the log's file and the most of its records (EMV 4.3 Book 3 Annex D2), where there is a log
abbrev pub log_entry : AppData → Option (List ℕ)
log_entry app = if app.log == 0 then None else Some (written 0x9F4D (app.log_sfi ∷ app.log ∷ []))

-- the label, the priority indicator, the processing options object list and the log's entry
unfoldable pub proprietary : AppData → List ℕ
proprietary app =
    written 0x50 app.label
    ++ written_some 0x87 (value_of_byte app.priority)
    ++ written_some 0x9F38 app.pdol
    ++ written_some 0xBF0C (log_entry app)

-- the name, and the proprietary template
unfoldable pub fci_bytes : AppData → List ℕ
fci_bytes app = written 0x6F (written 0x84 app.name ++ written 0xA5 (proprietary app))

-- what a reader finds: tags and values in their order
abbrev pub Objects : Type 0
Objects = List (ℕ × List ℕ)

-- the bytes are these data objects
abbrev pub AreObjects : List ℕ → Objects → Type 0
AreObjects bytes objects = (items : List ItemData) × (items_of bytes ≡ Ok items) × (map (λ i. (i.tag, i.value)) items ≡ objects)

abbrev pub object_if : ℕ → Option (List ℕ) → Objects
object_if tag None = []
object_if tag (Some value) = (tag, value) ∷ []

-- the log's entry, where it is there, is the log's file and the most of its records
abbrev pub IsLogEntry : AppData → Option (List ℕ) → Type 0
IsLogEntry app (Some bytes) = AreObjects bytes ((0x9F4D, app.log_sfi ∷ app.log ∷ []) ∷ [])
IsLogEntry app None = app.log ≡ 0

-- the information in other words: a template of the name and of the proprietary template, and in that one
-- the label, and the priority indicator, the processing options object list and the log's entry where they are there
pub record IsFci (app : AppData) (bytes : List ℕ) : Type 0 where
  pub template : List ℕ
  pub own : List ℕ
  pub whole : AreObjects bytes ((0x6F, template) ∷ [])
  pub parts : AreObjects template ((0x84, app.name) ∷ (0xA5, own) ∷ [])
  pub objects : AreObjects own ((0x50, app.label) ∷ object_if 0x87 (value_of_byte app.priority) ++ object_if 0x9F38 app.pdol ++ object_if 0xBF0C (log_entry app))
  pub log : IsLogEntry app (log_entry app)
