use Rattle.std.proofs.Common.{◌≡◌, ◌≤◌, ◌-◌, length}
use Rattle.ber_tlv.specs.Left.{items_behind}
use Rattle.script_run.specs.Only.{only_commands}
use Rattle.script_run.proofs.template.only_commands.Given as goal

abbrev pub invariant-loop-item : goal.invariant-loop-item
invariant-loop-item l = record {
  within : l.cursor.place ≤ length l.cursor.bytes;
  same : only_commands (items_behind l.cursor.bytes l.cursor.place) ≡ only_commands (items_behind l.initial.cursor.bytes l.initial.cursor.place);
}

abbrev pub decreases-loop-item : goal.decreases-loop-item
decreases-loop-item l = length l.cursor.bytes - l.cursor.place
