use Rattle.std.proofs.Common.{◌≡◌, ◌++◌, length, drop}
use Rattle.card_state.specs.Upgrade.{limits_applied}
use Rattle.card_state.proofs.upgrade.apps_with_limits.Given as goal

-- the applications are those so far and those that are left
abbrev pub invariant-loop-i : goal.invariant-loop-i
invariant-loop-i l = record {
  count : length l.made.items ≡ l.i;
  left : limits_applied l.opening l.apps ≡ l.made.items ++ limits_applied (drop l.i l.opening) (drop l.i l.apps);
}
