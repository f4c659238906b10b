use Rattle.std.proofs.Common.{length}
use Rattle.card_files.proofs.fault.+first_hidden.Given as goal

abbrev pub decreases-first_hidden : goal.decreases-first_hidden
decreases-first_hidden l = length l.apps.now
