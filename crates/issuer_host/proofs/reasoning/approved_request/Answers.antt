use Rattle.std.proofs.Common.{ap, ◌∙◌}
use Rattle.issuer_host.specs.Reasons.{approved_amount}
use Rattle.issuer_host.proofs.reasoning.approved_request.Goals as goal

pub returns : goal.returns
returns c = c.approved_amount.ensures c.args.key.now ∙ ap approved_amount c.request.ensures
