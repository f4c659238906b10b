-- What an object list must hold, by its place.
use Rattle.std.specs.Prelude.{List, []}
use Rattle.card_files.specs.Lists.{cdol1_entries, cdol2_entries}
use Rattle.object_lists.specs.DolEntries.{DolEntry}
use Rattle.scenario.specs.declared.lists.Holding.{Holding}
use Rattle.scenario.specs.declared.lists.Holding.TheVariants.{Anything, First, Second}

-- the entries that a list must hold
abbrev pub wanted_by : Holding → List DolEntry
wanted_by Anything = []
wanted_by First = cdol1_entries
wanted_by Second = cdol2_entries
