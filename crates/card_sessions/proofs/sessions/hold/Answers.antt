-- A card that has just been made stands for no decisions.
use Rattle.std.proofs.Common.{[], None}
use Rattle.card_sessions.proofs.sessions.hold.Goals as goal

pub turned_on-requires-clause-card : goal.turned_on-requires-clause-card
turned_on-requires-clause-card g c = record { off = c.personalise.ensures.off; stands = ([], None, c.personalise.ensures.stands) }
