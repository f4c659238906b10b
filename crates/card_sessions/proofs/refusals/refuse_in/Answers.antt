-- A card that has just been made stands for no decisions.
use Rattle.std.proofs.Common.{[], None}
use Rattle.card_sessions.proofs.refusals.refuse_in.Goals as goal

pub turn_on-requires-clause-card : goal.turn_on-requires-clause-card
turn_on-requires-clause-card g c = ([], None, c.new-icc.ensures.off)
