use Rattle.std.proofs.Common.{◌≡◌, ◌+◌, ◌*◌, ◌≤◌, drop}
use Rattle.object_lists.specs.DolEntries.{total_of}
use Rattle.object_lists.specs.DolSeen.{all_seen}
use Rattle.object_lists.proofs.dol.total_among.Given as goal

abbrev pub invariant-loop-entry : goal.invariant-loop-entry
invariant-loop-entry l = record {
  small : l.total ≤ 255 * l.entry-index;
  same : l.total + total_of (all_seen (drop l.entry-index l.entries)) ≡ total_of (all_seen l.entries);
}
