-- What a contract sees of an object list.
use Rattle.std.specs.Prelude.{List, map}
use Rattle.object_lists.specs.DolEntries.{DolEntry}
use Rattle.object_lists.specs.declared.dol.Entry.{Entry}

abbrev pub seen_dol_entry : Entry → DolEntry
seen_dol_entry entry = record { tag = entry.tag.0; count = entry.count }

abbrev pub all_seen : List Entry → List DolEntry
all_seen entries = map seen_dol_entry entries
