use Rattle.std.proofs.Common.{◌≡◌, ◌-◌, length, map, take}
use Rattle.scenario_fields.proofs.spot.digits_in.Given as goal

abbrev pub invariant-loop-character : goal.invariant-loop-character
invariant-loop-character l = record {
  so_far : l.digits ≡ map (λ c. c - 48) (take l.character-index l.text);
  count : length l.digits ≡ l.character-index;
}
