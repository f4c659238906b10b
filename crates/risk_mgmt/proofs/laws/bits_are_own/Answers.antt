use Rattle.risk_mgmt.proofs.OwnBits.{bits_own}
use Rattle.risk_mgmt.proofs.laws.bits_are_own.Goals as goal

pub returns : goal.returns
returns c = bits_own
