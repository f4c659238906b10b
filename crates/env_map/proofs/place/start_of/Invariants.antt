use Rattle.std.proofs.Common.{◌≡◌, ◌+◌, drop, option_map}
use Rattle.env_map.specs.Places.{count_of_bytes, start_at}
use Rattle.env_map.proofs.place.start_of.Given as goal

abbrev pub invariant-loop-place : goal.invariant-loop-place
invariant-loop-place l = record {
  counted : l.start + count_of_bytes (drop l.place-index l.places) ≡ count_of_bytes l.places;
  same : option_map (λ start. l.start + start) (start_at l.tag.0 (drop l.place-index l.places)) ≡ start_at l.tag.0 l.places;
}
