use Rattle.std.proofs.Common.{length}
use Rattle.emv_dict.proofs.pan.+append_packed.Given as goal

abbrev pub decreases-append_packed : goal.decreases-append_packed
decreases-append_packed l = length l.digits.now
