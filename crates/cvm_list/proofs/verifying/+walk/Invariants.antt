use Rattle.std.proofs.Common.{◌-◌, length}
use Rattle.cvm_list.proofs.verifying.+walk.Given as goal

abbrev pub decreases-walk : goal.decreases-walk
decreases-walk l = length l.rules.items - l.at
