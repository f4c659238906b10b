-- A card that has just been made stands for no decisions.
use Rattle.std.proofs.Common.{[], None}
use Rattle.card_sessions.proofs.tears.try_plans.Goals as goal

pub purchase_cut-requires-clause-card : goal.purchase_cut-requires-clause-card
purchase_cut-requires-clause-card g c = ([], None, c.new-icc.ensures.off)
