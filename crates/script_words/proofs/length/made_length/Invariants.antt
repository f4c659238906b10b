use Rattle.std.proofs.Common.{◌≡◌, ◌+◌, ◌*◌, ◌≤◌, take}
use Rattle.std.specs.Prelude.{sum_by}
use Rattle.script_words.specs.MadeLength.{identifier_length, order_length}
use Rattle.script_words.proofs.length.made_length.Given as goal

abbrev pub invariant-loop-order : goal.invariant-loop-order
invariant-loop-order l = record {
  so_far : l.content ≡ identifier_length l.script-inside.id + sum_by order_length (take l.order-index l.script-inside.commands.items);
  short : l.content ≤ 7 + 23 * l.order-index;
}
