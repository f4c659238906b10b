use Rattle.std.proofs.Common.{◌≡◌, ◌+◌, drop}
use Rattle.env_map.specs.Places.{count_of_bytes, index_for, start_for}
use Rattle.env_map.proofs.place.slot_for.Given as goal

abbrev pub invariant-loop-index : goal.invariant-loop-index
invariant-loop-index l = record {
  counted : l.start + count_of_bytes (drop l.index l.places) ≡ count_of_bytes l.places;
  same_index : l.index + index_for l.tag.0 (drop l.index l.places) ≡ index_for l.tag.0 l.places;
  same_start : l.start + start_for l.tag.0 (drop l.index l.places) ≡ start_for l.tag.0 l.places;
}
