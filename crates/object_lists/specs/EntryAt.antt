-- Where an entry of a data object list is, and its data (EMV 4.3 Book 3 section 5.4).
use Rattle.std.specs.Prelude.{◌≡◌, ◌≢◌, ℕ, List, ◌∷◌, ◌++◌}
use Rattle.std.specs.List.{AllByRecursion}
use Rattle.object_lists.specs.DolEntries.{DolEntry, total_of}

-- the list has this entry, none before it is the same, and those before it want so many bytes
pub record EntryAt (entries : List DolEntry) (entry : DolEntry) (place : ℕ) : Type 0 where
  pub front : List DolEntry
  pub behind : List DolEntry
  pub splits : entries ≡ front ++ entry ∷ behind
  pub others : AllByRecursion (λ earlier. earlier ≢ entry) front
  pub wanted : total_of front ≡ place
