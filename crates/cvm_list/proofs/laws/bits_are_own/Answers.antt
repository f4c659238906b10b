use Rattle.cvm_list.proofs.Own.{bits_own}
use Rattle.cvm_list.proofs.laws.bits_are_own.Goals as goal

pub returns : goal.returns
returns c = bits_own
