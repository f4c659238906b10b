use Rattle.std.proofs.Common.{◌≡◌}
use Rattle.object_lists.specs.DolEntries.{data_place}
use Rattle.object_lists.proofs.EntryPlaces.{returned_place, returned_none, returned_data}
use Rattle.object_lists.proofs.dol.place.Goals as goal

is_place : (c : goal.After-place_among) → c.place_among.result ≡ data_place c.args.tag.0 c.args.len c.args.dol.now
is_place c = rw c.entries.ensures.entries at c.place_among.ensures

pub returns-clause-found : goal.returns-clause-found
returns-clause-found c = returned_place c.place_among.result c.args.tag.0 c.args.len c.args.dol.now (is_place c)

pub returns-clause-none : goal.returns-clause-none
returns-clause-none c = returned_none c.place_among.result c.args.tag.0 c.args.len c.args.dol.now (is_place c)

pub returns-clause-data : goal.returns-clause-data
returns-clause-data c = returned_data c.place_among.result c.args.tag.0 c.args.len c.args.dol.now (is_place c)
