use Rattle.std.proofs.Common.{length, ◌-◌, ◌≡◌, ◌*◌, ◌≤◌}
use Rattle.object_lists.specs.DolEntries.{entries_behind, dol_of}
use Rattle.object_lists.specs.DolSeen.{all_seen}
use Rattle.object_lists.proofs.DolReading.{with_front}
use Rattle.object_lists.proofs.DolSpelling.{IsSpelledTo}
use Rattle.object_lists.proofs.dol.read_dol.Given as goal

abbrev pub invariant-loop-place : goal.invariant-loop-place
invariant-loop-place l = record {
  few : 2 * length l.entries.items ≤ l.place;
  within : l.place ≤ length l.bytes;
  spelled : IsSpelledTo l.bytes (all_seen l.entries.items) l.place;
  same : with_front (all_seen l.entries.items) (entries_behind l.bytes l.place) ≡ dol_of l.bytes;
}

abbrev pub decreases-loop-place : goal.decreases-loop-place
decreases-loop-place l = length l.bytes - l.place
