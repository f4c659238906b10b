use Rattle.std.proofs.Common.{◌≡◌, ◌≤◌, length, drop}
use Rattle.env_map.specs.Entries.{value_of}
use Rattle.env_map.specs.Places.{entries_of, count_of_bytes}
use Rattle.env_map.proofs.place.found.Given as goal

abbrev pub invariant-loop-place : goal.invariant-loop-place
invariant-loop-place l = record {
  within : count_of_bytes (drop l.place-index l.places) ≤ length l.rest;
  same : value_of l.tag.0 (entries_of l.rest (drop l.place-index l.places)) ≡ value_of l.tag.0 (entries_of l.bytes l.places);
}
