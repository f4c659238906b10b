use Rattle.std.proofs.Common.{ap, ◌∙◌}
use Rattle.issuer_host.specs.Books.{was_approved}
use Rattle.issuer_host.proofs.records.Records.is_booked.Goals as goal

pub returns : goal.returns
returns c = c.was_approved.ensures c.args.key.now ∙ ap was_approved c.presentment.ensures
