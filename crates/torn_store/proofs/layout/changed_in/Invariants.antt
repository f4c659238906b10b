use Rattle.std.proofs.Common.{◌≡◌, ◌++◌, ◌+◌, ◌-◌, ◌/◌, ◌≤◌, length}
use Rattle.torn_store.specs.Layout.{changed_from}
use Rattle.torn_store.proofs.layout.changed_in.Given as goal

abbrev pub invariant-loop-place : goal.invariant-loop-place
invariant-loop-place l = record {
  few : length l.blocks.items ≤ l.place;
  left : l.blocks.items ++ changed_from l.place ((length l.frame + 63) / 64 - l.place) (l.front ++ l.behind) l.frame
      ≡ changed_from 0 ((length l.frame + 63) / 64) (l.front ++ l.behind) l.frame;
}
