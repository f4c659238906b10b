-- By the row of each command.
use Rattle.card_sessions.proofs.Trying.{tries_first}
use Rattle.card_sessions.proofs.law.tries_come_first.Goals as goal

pub returns : goal.returns
returns c image = tries_first image
