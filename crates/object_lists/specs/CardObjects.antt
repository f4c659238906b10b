-- The objects that a card gave so far.
use Rattle.std.specs.Prelude.{[], Option, Some, None}
use Rattle.env_map.specs.Entries.{Entries}

-- none before it gave a map
abbrev pub entries_given : Option Entries → Entries
entries_given None = []
entries_given (Some entries) = entries
