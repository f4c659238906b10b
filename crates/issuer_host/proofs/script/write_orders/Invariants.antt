use Rattle.std.proofs.Common.{◌≡◌, ◌+◌, ◌*◌, ◌≤◌, ◌++◌, take, length}
use Rattle.std.specs.Prelude.{sum_by, flat_map}
use Rattle.script_words.specs.MadeLength.{order_length}
use Rattle.issuer_host.specs.Scripts.{order_bytes}
use Rattle.issuer_host.proofs.script.write_orders.Given as goal

abbrev pub invariant-loop-order : goal.invariant-loop-order
invariant-loop-order l = record {
  so_far : l.out.items ≡ l.fn.out.items ++ flat_map (order_bytes l.keys) (take l.order-index l.orders);
  sized : length l.out.items ≡ length l.fn.out.items + sum_by order_length (take l.order-index l.orders);
  short : length l.out.items ≤ 7 + 23 * l.order-index;
}
