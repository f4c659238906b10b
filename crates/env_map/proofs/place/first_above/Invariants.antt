use Rattle.std.proofs.Common.{◌≡◌, ◌≤◌, length, drop, find}
use Rattle.env_map.specs.Entries.{is_tag_above}
use Rattle.env_map.specs.Places.{entries_of, count_of_bytes}
use Rattle.env_map.proofs.place.first_above.Given as goal

abbrev pub invariant-loop-place : goal.invariant-loop-place
invariant-loop-place l = record {
  within : count_of_bytes (drop l.place-index l.places) ≤ length l.rest;
  same : find (λ entry. is_tag_above l.given entry.0) (entries_of l.rest (drop l.place-index l.places))
      ≡ find (λ entry. is_tag_above l.given entry.0) (entries_of l.bytes l.places);
}
