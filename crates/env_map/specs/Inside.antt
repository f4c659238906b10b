-- The entries of an `Env`, and what holds of its fields.
use Rattle.std.specs.Prelude.{◌≡◌, ◌≤◌, length}
use Rattle.env_map.specs.Entries.{Entries, IsRising}
use Rattle.env_map.specs.Places.{entries_of, count_of_bytes}
use Rattle.env_map.specs.declared.env.Env.TheInside.{Inside}

abbrev pub entries : Inside → Entries
entries inside = entries_of inside.bytes.items inside.places.items

pub record IsInOrder (inside : Inside) : Type 0 where
  pub filled : count_of_bytes inside.places.items ≡ length inside.bytes.items
  pub short : length inside.bytes.items ≤ 16384
  pub rising : IsRising (entries inside)
