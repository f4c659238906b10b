use Rattle.dialogue_laws.proofs.Hosting.{hosts_linked}
use Rattle.dialogue_laws.proofs.decision.hosts_are_linked.Goals as goal

pub returns : goal.returns
returns c keys accounts messages message = hosts_linked keys accounts messages message
