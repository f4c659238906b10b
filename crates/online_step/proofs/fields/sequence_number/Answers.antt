use Rattle.std.proofs.Common.{sym, arith}
use Rattle.online_step.proofs.Digits.{two_digits-one, two_digits-value}
use Rattle.online_step.proofs.fields.sequence_number.Goals as goal

pub copied-requires : goal.copied-requires
copied-requires c = (omega arith, two_digits-one c.in-Some.value.now (c.in-Some.ensures.read.forms.sequence_number c.in-Some.value.now (sym c.in-Some.ensures.value)))

pub returns-in-Some-clause-digits : goal.returns-in-Some-clause-digits
returns-in-Some-clause-digits c = rw c.copied.ensures (two_digits-value c.in-Some.value.now (c.in-Some.ensures.read.forms.sequence_number c.in-Some.value.now (sym c.in-Some.ensures.value)))
