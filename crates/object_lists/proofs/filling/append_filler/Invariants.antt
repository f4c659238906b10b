use Rattle.std.proofs.Common.{◌≡◌, ◌+◌, ◌++◌, length, replicate}
use Rattle.object_lists.proofs.filling.append_filler.Given as goal

abbrev pub invariant-loop : goal.invariant-loop
invariant-loop l = record {
  filled : l.out.items ≡ l.fn.out.items ++ replicate l.counter l.byte;
  len : length l.out.items ≡ length l.fn.out.items + l.counter;
}
