use Rattle.std.proofs.Common.{◌≡◌, take}
use Rattle.report_lines.specs.Parts.{digits_number}
use Rattle.report_lines.proofs.parts.digits_number.Given as goal

abbrev pub invariant-loop-digit : goal.invariant-loop-digit
invariant-loop-digit l = l.number ≡ digits_number (take l.digit-index l.digits)
