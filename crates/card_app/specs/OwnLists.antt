-- The object lists of an application, as its image has them (EMV 4.3 Book 3 section 5.4).
use Rattle.std.specs.Prelude.{ℕ, List, [], Option, Some, None, unwrap_or}
use Rattle.card_files.specs.Lists.{entries_within, most_pdol, most_cdol}
use Rattle.object_lists.specs.DolEntries.{DolEntry, total_of}

-- the entries of an object list of GENERATE AC
abbrev pub cdol_of : List ℕ → List DolEntry
cdol_of bytes = unwrap_or (entries_within most_cdol bytes) []

-- how many bytes of data the processing options object list wants: none where there is none
abbrev pub pdol_total : Option (List ℕ) → ℕ
pdol_total None = 0
pdol_total (Some bytes) = total_of (unwrap_or (entries_within most_pdol bytes) [])
