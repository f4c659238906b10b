use Rattle.std.proofs.Common.{◌≡◌, map}
use Rattle.std.specs.List.{filter, range_with_len}
use Rattle.generated.specs.Lanes.{stands_on}
use Rattle.generated.specs.Numbers.{generated_number}
use Rattle.generated.specs.Purchases.{planned_at}
use Rattle.generated.proofs.lane.purchases.Given as goal

abbrev pub invariant-loop-k : goal.invariant-loop-k
invariant-loop-k l = record {
  number : l.x ≡ generated_number l.count l.k;
  purchases : l.purchases.items ≡ map (planned_at l.count) (filter (stands_on l.lane) (range_with_len 0 l.k));
}
