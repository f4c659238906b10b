-- The spelling of a data object list, and why bytes are none (EMV 4.3 Book 3 section 5.4).
use Rattle.std.specs.Prelude.{◌≡◌, ℕ, ◌+◌, ◌<◌, List, [], ◌∷◌, ◌++◌, length, drop}
use Rattle.ber_tlv.specs.Spelled.{HasLongTag}
use Rattle.ber_tlv.specs.Written.{tag_bytes}
use Rattle.object_lists.specs.DolEntries.{DolEntry}
use Rattle.object_lists.specs.declared.dol.DolFault.{DolFault}
use Rattle.object_lists.specs.declared.dol.DolFault.TheVariants.{Truncated, LongTag}

-- an entry's tag, then its length byte
abbrev pub entry_bytes : DolEntry → List ℕ
entry_bytes entry = tag_bytes entry.tag ++ entry.count ∷ []

-- the entries one behind another
abbrev pub dol_bytes : List DolEntry → List ℕ
dol_bytes [] = []
dol_bytes (entry ∷ entries) = entry_bytes entry ++ dol_bytes entries

-- the entry's own bytes stand from this place to the next one
pub record SpelledEntry (bytes : List ℕ) (start : ℕ) (entry : DolEntry) (next : ℕ) : Type 0 where
  pub passed : start + length (entry_bytes entry) ≡ next
  pub same : drop start bytes ≡ entry_bytes entry ++ drop next bytes

-- bytes with which an entry begins, and which end within it
pub record IsCutEntry (bytes : List ℕ) : Type 0 where
  pub entry : DolEntry
  pub more : List ℕ
  pub spells : bytes ++ more ≡ entry_bytes entry
  pub missing : 0 < length more

-- why no entry is read from a place on, where these bytes stand
abbrev pub StopsEntry : DolFault → ℕ → List ℕ → Type 0
StopsEntry (Truncated place) start bytes = (place ≡ start) × IsCutEntry bytes
StopsEntry (LongTag place) start bytes = (place ≡ start) × HasLongTag bytes

-- entries spell the bytes before the fault's place, and there no entry stands
pub record FaultBehindEntries (bytes : List ℕ) (fault : DolFault) : Type 0 where
  pub front : List DolEntry
  pub rest : List ℕ
  pub splits : dol_bytes front ++ rest ≡ bytes
  pub some : 0 < length rest
  pub stops : StopsEntry fault (length (dol_bytes front)) rest
