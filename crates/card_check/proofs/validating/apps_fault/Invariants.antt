use Rattle.std.proofs.Common.{◌≡◌, drop}
use Rattle.card_check.proofs.validating.apps_fault.Given as goal
use Rattle.card_check.specs.Judged.{apps_fault}

abbrev pub invariant-loop-index : goal.invariant-loop-index
invariant-loop-index l = apps_fault l.index (drop l.index l.image.apps) ≡ apps_fault 0 l.image.apps
