use Rattle.std.proofs.Common.{◌≡◌, ◌≤◌, ◌-◌, length}
use Rattle.app_select.specs.Named.{HaveRows, all_named}
use Rattle.ber_tlv.specs.Left.{items_of, items_behind}
use Rattle.pse_directory.proofs.Entering.{read_on}
use Rattle.pse_directory.proofs.record.add_entries.Given as goal

abbrev pub invariant-loop-item : goal.invariant-loop-item
invariant-loop-item l = record {
  within : l.cursor.place ≤ length l.cursor.bytes;
  same : l.cursor.bytes ≡ l.template;
  rows_there : HaveRows l.rows l.found.items;
  read : read_on l.rows (all_named l.rows l.found.items) (items_behind l.cursor.bytes l.cursor.place)
      ≡ read_on l.rows (all_named l.rows l.initial.found.items) (items_of l.template);
}

abbrev pub decreases-loop-item : goal.decreases-loop-item
decreases-loop-item l = length l.cursor.bytes - l.cursor.place
