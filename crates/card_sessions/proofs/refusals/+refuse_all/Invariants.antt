use Rattle.std.proofs.Common.{length}
use Rattle.card_sessions.proofs.refusals.+refuse_all.Given as goal

abbrev pub decreases-refuse_all : goal.decreases-refuse_all
decreases-refuse_all g l = length l.rows.now
