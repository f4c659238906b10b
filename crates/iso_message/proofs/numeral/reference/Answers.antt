use Rattle.std.proofs.Common.{refl}
use Rattle.iso_message.specs.Text.{counter_digits, decimal_digits}
use Rattle.iso_message.proofs.numeral.reference.Goals as goal

pub returns : goal.returns
unfolding counter_digits decimal_digits
returns c = rw c.counter.ensures refl
