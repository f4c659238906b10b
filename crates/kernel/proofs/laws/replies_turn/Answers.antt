use Rattle.kernel.proofs.Turning.{replies_turn}
use Rattle.kernel.proofs.laws.replies_turn.Goals as goal

pub returns : goal.returns
returns c outset replies reply = replies_turn outset replies reply
