use Rattle.std.proofs.Common.{◌≡◌, ◌≤◌, drop, slice_get}
use Rattle.scenario_plan.specs.SeenCards.{seen_cards}
use Rattle.txn_replay.specs.Steps.{checks_from}
use Rattle.txn_replay.proofs.audit.audit_step.Given as goal

abbrev pub invariant-loop-index : goal.invariant-loop-index
invariant-loop-index l = record {
  same : slice_get (checks_from l.index (drop l.index (seen_cards l.cards))) l.left ≡ slice_get (checks_from 0 (seen_cards l.cards)) l.fn.number;
  within : l.index ≤ l.index-end;
}
