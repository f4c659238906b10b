-- Where reading of the directory stands, as a contract sees it.
use Rattle.std.specs.Prelude.{⊤, ◌≡◌, ◌≤◌, List}
use Rattle.app_select.specs.Named.{HaveRows, all_named}
use Rattle.emv_dict.specs.declared.purchase.AidRow.{AidRow}
use Rattle.pse_directory.specs.Directory.{kept_candidates}
use Rattle.pse_directory.specs.Left.{PlaceData, AtName, AtRecord}
use Rattle.pse_directory.specs.declared.listing.Awaited.{Awaited}
use Rattle.pse_directory.specs.declared.listing.Awaited.TheVariants as place
use Rattle.pse_directory.specs.declared.listing.Records.{Records}

abbrev pub seen_records : List AidRow → Records → PlaceData
seen_records rows r = AtRecord r.sfi r.number (all_named rows r.found.items)

abbrev pub seen_place : List AidRow → Awaited → PlaceData
seen_place rows place.Name = AtName
seen_place rows (place.Record r) = seen_records rows r

-- the file is one of 1 to 10; of the applications found, each is the first of its name, and no more than 16 are kept
pub record IsRecordsInRange (rows : List AidRow) (r : Records) : Type 0 where
  pub file : r.sfi ≤ 10
  pub number : r.number ≤ 255
  pub rows_there : HaveRows rows r.found.items
  pub few : kept_candidates (all_named rows r.found.items) ≡ all_named rows r.found.items

abbrev pub IsAwaitedInRange : List AidRow → Awaited → Type 0
IsAwaitedInRange rows place.Name = ⊤
IsAwaitedInRange rows (place.Record r) = IsRecordsInRange rows r
