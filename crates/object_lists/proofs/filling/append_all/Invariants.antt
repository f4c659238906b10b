use Rattle.std.proofs.Common.{◌≡◌, ◌+◌, ◌≤◌, ◌++◌, length, drop, option_map}
use Rattle.object_lists.specs.DolEntries.{total_of}
use Rattle.object_lists.specs.DolSeen.{all_seen}
use Rattle.object_lists.specs.Filled.{dol_data}
use Rattle.object_lists.specs.CardObjects.{entries_given}
use Rattle.object_lists.proofs.filling.append_all.Given as goal

abbrev pub invariant-loop-entry : goal.invariant-loop-entry
invariant-loop-entry l = record {
  room : length l.out.items + total_of (all_seen (drop l.entry-index l.entries)) ≤ 252;
  len : length l.out.items + total_of (all_seen (drop l.entry-index l.entries)) ≡ length l.fn.out.items + total_of (all_seen l.entries);
  same : l.out.items ++ dol_data (all_seen (drop l.entry-index l.entries)) (entries_given (option_map (λ env. env.now) l.card)) l.terminal ≡ l.fn.out.items ++ dol_data (all_seen l.entries) (entries_given (option_map (λ env. env.now) l.card)) l.terminal;
}
