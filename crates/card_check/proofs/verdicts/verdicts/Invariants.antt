use Rattle.std.proofs.Common.{◌≡◌, ◌++◌, drop}
use Rattle.card_check.proofs.verdicts.verdicts.Given as goal
use Rattle.card_check.specs.Verdicts.{lanes_text, verdicts_text}

abbrev pub invariant-loop-number : goal.invariant-loop-number
invariant-loop-number l = l.out.items ++ lanes_text l.scenario.cards l.number (drop l.number l.scenario.lanes) ≡ verdicts_text l.scenario
