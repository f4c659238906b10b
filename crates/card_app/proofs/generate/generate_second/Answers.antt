-- The second cryptogram ends the transaction, however the issuer was authenticated.
use Rattle.card_app.proofs.generate.generate_second.Goals as goal

pub returns-clause-leads : goal.returns-clause-leads
returns-clause-leads c = c.make_second.ensures.leads c.args.sent
