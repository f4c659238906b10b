use Rattle.std.proofs.Common.{ap, ◌∙◌}
use Rattle.issuer_host.specs.Holds.{account_in}
use Rattle.issuer_host.proofs.Places.{account_found}
use Rattle.issuer_host.proofs.reasoning.find_account.Goals as goal

pub returns : goal.returns
returns c = c.account_at.ensures ∙ ap (account_in c.args.accounts.now) c.place_of.ensures ∙ account_found c.args.pan.now c.args.accounts.now
