use Rattle.kernel.proofs.Belonging.{bits_belong}
use Rattle.kernel.proofs.laws.bits_belong.Goals as goal

pub returns : goal.returns
returns c = bits_belong
