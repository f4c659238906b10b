-- Data objects of at most 256 bytes.
use Rattle.std.specs.Prelude.{◌≤◌, length}
use Rattle.std.specs.List.{AllByRecursion}
use Rattle.env_map.specs.Entries.{Entries}
use Rattle.object_lists.specs.CardRead.{ReadCard}

-- each value has at most 256 bytes
abbrev pub AllShort : Entries → Type 0
AllShort entries = AllByRecursion (λ entry. length entry.1 ≤ 256) entries

abbrev pub HasShortObjects : ReadCard → Type 0
HasShortObjects card = AllShort card.entries
