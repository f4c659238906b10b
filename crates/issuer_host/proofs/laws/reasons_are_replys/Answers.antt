use Rattle.issuer_host.proofs.Reasons.{each_reason}
use Rattle.issuer_host.proofs.laws.reasons_are_replys.Goals as goal

pub returns : goal.returns
returns c = each_reason
