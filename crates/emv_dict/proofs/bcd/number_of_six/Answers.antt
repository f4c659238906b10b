use Rattle.std.proofs.Common.{arith}
use Rattle.emv_dict.proofs.Amounts.{number_of_six}
use Rattle.emv_dict.proofs.bcd.number_of_six.Goals as goal

pub returns-clause-number : goal.returns-clause-number
returns-clause-number c = omega (arith, number_of_six c.args.bytes.now c.requires.six)
