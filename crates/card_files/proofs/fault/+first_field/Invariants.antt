use Rattle.std.proofs.Common.{length}
use Rattle.card_files.proofs.fault.+first_field.Given as goal

abbrev pub decreases-first_field : goal.decreases-first_field
decreases-first_field l = length l.apps.now
