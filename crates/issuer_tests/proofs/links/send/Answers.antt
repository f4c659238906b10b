use Rattle.std.proofs.Common.{[]}
use Rattle.issuer_tests.proofs.links.send.Goals as goal

pub deliver-requires-clause-message : goal.deliver-requires-clause-message
deliver-requires-clause-message g c = λ iso. rw c.as_slice.ensures.value (c.write_reversal.ensures.message c.reversal.ensures.codes)

pub deliver-requires-clause-stands : goal.deliver-requires-clause-stands
deliver-requires-clause-stands g c = ([], c.in-Ok.ensures.stands)
