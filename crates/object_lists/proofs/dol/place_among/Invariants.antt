use Rattle.std.proofs.Common.{◌≡◌, ◌+◌, ◌*◌, ◌≤◌, drop, option_map}
use Rattle.object_lists.specs.DolEntries.{data_place}
use Rattle.object_lists.specs.DolSeen.{all_seen}
use Rattle.object_lists.proofs.dol.place_among.Given as goal

abbrev pub invariant-loop-entry : goal.invariant-loop-entry
invariant-loop-entry l = record {
  small : l.place ≤ 255 * l.entry-index;
  same : option_map (λ place. l.place + place) (data_place l.tag.0 l.len (all_seen (drop l.entry-index l.entries))) ≡ data_place l.tag.0 l.len (all_seen l.entries);
}
