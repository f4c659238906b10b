-- The payment system directory of a card (EMV 4.3 Book 1 sections 12.2.2 and 12.2.3).
use Rattle.emv_dict.specs.Name.{directory_name}
use Rattle.std.specs.Prelude.{ℕ, Bool, nat_eq, ◌-◌, if◌then◌else◌, List, [], ◌∷◌, ◌++◌, codes, slice_get, Option, None, option_map}
use Rattle.std.specs.List.{starts_with}
use Rattle.std.specs.Str.{bytes_eq}
use Rattle.ber_tlv.specs.Written.{written}
use Rattle.card_files.specs.Control.{AreObjects, written_some, value_of_byte, object_if}
use Rattle.card_files.specs.Views.{AppData, ImageData}

-- the directory's name finds this application too: its own name begins with it
unfoldable pub is_hidden : List ℕ → Bool
is_hidden name = starts_with nat_eq name directory_name

-- the file of the card's directory, where it has one and this is the directory's name
abbrev pub directory_named : ImageData → List ℕ → Option ℕ
directory_named image name = if bytes_eq name directory_name then image.directory else None

-- the directory's file control information: its name, and the identifier of its file
unfoldable pub directory_fci : ℕ → List ℕ
directory_fci sfi = written 0x6F (written 0x84 directory_name ++ written 0xA5 (written 0x88 (sfi ∷ [])))

-- the record of an application: one entry with its name, its label, and its priority indicator where it has one
unfoldable pub directory_record_bytes : AppData → List ℕ
directory_record_bytes app =
    written 0x70 (written 0x61 (written 0x4F app.name ++ written 0x50 app.label ++ written_some 0x87 (value_of_byte app.priority)))

-- the directory's records are those of the applications in their order, from number 1 on
abbrev pub directory_record : List AppData → ℕ → Option (List ℕ)
directory_record apps number = option_map directory_record_bytes (slice_get apps (number - 1))

-- both in other words, as a reader finds them
pub record IsDirectoryFci (sfi : ℕ) (bytes : List ℕ) : Type 0 where
  pub template : List ℕ
  pub own : List ℕ
  pub whole : AreObjects bytes ((0x6F, template) ∷ [])
  pub parts : AreObjects template ((0x84, directory_name) ∷ (0xA5, own) ∷ [])
  pub objects : AreObjects own ((0x88, sfi ∷ []) ∷ [])

-- what a reader of data objects finds in a record of the directory: one template 70, in it one 61, in it name, label
-- and priority
pub record IsDirectoryRecord (app : AppData) (bytes : List ℕ) : Type 0 where
  pub template : List ℕ
  pub entry : List ℕ
  pub whole : AreObjects bytes ((0x70, template) ∷ [])
  pub parts : AreObjects template ((0x61, entry) ∷ [])
  pub objects : AreObjects entry ((0x4F, app.name) ∷ (0x50, app.label) ∷ object_if 0x87 (value_of_byte app.priority))
