use Rattle.std.specs.List.{All}
use Rattle.emv_dict.specs.Digits.{HasPinLength}
use Rattle.terminal_tests.proofs.verification.purchase.Given as goal

abbrev pub invariant-loop-entry : goal.invariant-loop-entry
invariant-loop-entry g l = All HasPinLength l.pins.items
