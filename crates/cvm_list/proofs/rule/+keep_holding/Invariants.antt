use Rattle.std.proofs.Common.{length}
use Rattle.cvm_list.proofs.rule.+keep_holding.Given as goal

abbrev pub decreases-keep_holding : goal.decreases-keep_holding
decreases-keep_holding l = length l.bytes.now
