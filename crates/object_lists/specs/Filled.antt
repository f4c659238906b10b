-- The data that an object list is filled with (EMV 4.3 Book 3 section 5.4; Annex A).
use Rattle.std.specs.Prelude.{ℕ, ◌-◌, nat_lt, if◌then◌else◌, List, [], ◌∷◌, ◌++◌, length, take, drop, replicate, Option, Some, None, option_map, option_and_then}
use Rattle.ber_tlv.specs.Tag.{names_template}
use Rattle.emv_dict.specs.Dictionary.{row_in, dictionary}
use Rattle.emv_dict.specs.declared.dictionary.Format.{Format}
use Rattle.emv_dict.specs.declared.dictionary.Format.TheVariants.{Numeric, Compressed, Text, Binary}
use Rattle.emv_dict.specs.declared.dictionary.Origin.{Origin}
use Rattle.emv_dict.specs.declared.dictionary.Origin.TheVariants.{Card, Terminal, Issuer}
use Rattle.env_map.specs.Entries.{Entries, value_of}
use Rattle.object_lists.specs.DolEntries.{DolEntry}

-- the map that an object comes from: the card's, or the terminal's with what the issuer sent
abbrev pub source : Origin → Entries → Entries → Entries
source Card card terminal = card
source Terminal card terminal = terminal
source Issuer card terminal = terminal

-- a value too long for its place: cut on the left if numeric, else on the right
abbrev pub fitted_cut : Format → ℕ → List ℕ → List ℕ
fitted_cut Numeric count value = drop (length value - count) value
fitted_cut Compressed count value = take count value
fitted_cut Text count value = take count value
fitted_cut Binary count value = take count value

-- a value too short, or of the right length: filled on the left with 00 if numeric, on the right
-- with FF if compressed numeric, else on the right with 00
abbrev pub padded : Format → ℕ → List ℕ → List ℕ
padded Numeric count value = replicate (count - length value) 0 ++ value
padded Compressed count value = value ++ replicate (count - length value) 255
padded Text count value = value ++ replicate (count - length value) 0
padded Binary count value = value ++ replicate (count - length value) 0

abbrev pub fitted : Format → ℕ → List ℕ → List ℕ
fitted format count value = if nat_lt count (length value) then fitted_cut format count value else padded format count value

-- the format and the value of an object that the dictionary has, that is not constructed and that
-- has a value
unfoldable pub known : Entries → Entries → ℕ → Option (Format × List ℕ)
known card terminal tag =
    if names_template tag then None
    else option_and_then (λ row. option_map (λ value. (row.format, value)) (value_of tag (source row.origin card terminal))) (row_in dictionary tag)

-- the data of one entry: its value, cut or filled to the entry's length, or zeros
abbrev pub data_of : ℕ → Option (Format × List ℕ) → List ℕ
data_of count None = replicate count 0
data_of count (Some (format, value)) = fitted format count value

-- the data for one entry of a list: the object's value in the entry's length, or zeros
abbrev pub entry_data : Entries → Entries → DolEntry → List ℕ
entry_data card terminal entry = data_of entry.count (known card terminal entry.tag)

-- the data of all entries, one behind another
abbrev pub dol_data : List DolEntry → Entries → Entries → List ℕ
dol_data [] card terminal = []
dol_data (entry ∷ entries) card terminal = entry_data card terminal entry ++ dol_data entries card terminal
