use Rattle.std.proofs.Common.{length}
use Rattle.card_check.proofs.serving.+some_serves.Given as goal

abbrev pub decreases-some_serves : goal.decreases-some_serves
decreases-some_serves l = length l.apps.now
