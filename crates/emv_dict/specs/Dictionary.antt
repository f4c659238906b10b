-- The dictionary of data objects (EMV 4.3 Book 3 Annex A): each object's format and where it comes from.
use Rattle.std.specs.Prelude.{ℕ, ◌==◌, if◌then◌else◌, List, [], ◌∷◌, ◌++◌, map, Option, Some, None}
use Rattle.emv_dict.specs.declared.dictionary.Format.{Format}
use Rattle.emv_dict.specs.declared.dictionary.Format.TheVariants.{Numeric, Compressed, Text, Binary}
use Rattle.emv_dict.specs.declared.dictionary.Origin.{Origin}
use Rattle.emv_dict.specs.declared.dictionary.Origin.TheVariants.{Card, Terminal, Issuer}
use Rattle.emv_dict.specs.declared.dictionary.Row.{Row}

-- an object: its tag's bytes as one big-endian number, and its row
pub record Listed : Type 0 where
  pub tag : ℕ
  pub row : Row

-- the objects of these tags, all of one format and one origin
abbrev pub objects : Format → Origin → List ℕ → List Listed
objects format origin tags = map (λ t. record { tag = t; row = record { format = format; origin = origin } }) tags

-- the dictionary
unfoldable pub dictionary : List Listed
dictionary =
    objects Numeric Card (0x5F24 ∷ 0x5F25 ∷ 0x5F28 ∷ 0x5F30 ∷ 0x5F34 ∷ 0x9F42 ∷ [])
    ++ (objects Compressed Card (0x5A ∷ [])
    ++ (objects Text Card (0x50 ∷ 0x5F20 ∷ 0x9F1F ∷ [])
    ++ (objects Binary Card (0x57 ∷ 0x82 ∷ 0x8C ∷ 0x8D ∷ 0x8E ∷ 0x94 ∷ 0x9F07 ∷ 0x9F08 ∷ 0x9F0D ∷ 0x9F0E ∷ 0x9F0F
    ∷ 0x9F10 ∷ 0x9F13 ∷ 0x9F14 ∷ 0x9F17 ∷ 0x9F23 ∷ 0x9F26 ∷ 0x9F27 ∷ 0x9F36 ∷ 0x9F4A ∷ [])
    ++ (objects Numeric Terminal (0x5F2A ∷ 0x9A ∷ 0x9C ∷ 0x9F02 ∷ 0x9F03 ∷ 0x9F1A ∷ 0x9F21 ∷ 0x9F35 ∷ [])
    ++ (objects Text Terminal (0x9F1C ∷ [])
    ++ (objects Binary Terminal (0x95 ∷ 0x9B ∷ 0x9F06 ∷ 0x9F09 ∷ 0x9F33 ∷ 0x9F34 ∷ 0x9F37 ∷ [])
    ++ (objects Text Issuer (0x8A ∷ [])
    ++ objects Binary Issuer (0x91 ∷ []))))))))

-- the row of a tag, where the list has the tag
unfoldable pub row_in : List Listed → ℕ → Option Row
row_in [] tag = None
row_in (object ∷ rest) tag = (if object.tag == tag then Some object.row else row_in rest tag)
