use Rattle.std.proofs.Common.{length}
use Rattle.card_check.proofs.clashing.+name_clash.Given as goal

abbrev pub decreases-name_clash : goal.decreases-name_clash
decreases-name_clash l = length l.apps.now
