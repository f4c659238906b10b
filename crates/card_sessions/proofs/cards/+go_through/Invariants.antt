use Rattle.std.proofs.Common.{length}
use Rattle.card_sessions.proofs.cards.+go_through.Given as goal

abbrev pub decreases-go_through : goal.decreases-go_through
decreases-go_through g l = length l.session.now
