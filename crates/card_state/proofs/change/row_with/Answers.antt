use Rattle.std.proofs.Common.{rules}
use Rattle.card_state.proofs.Bytes.{are_bytes}
use Rattle.card_state.proofs.change.row_with.Goals as goal

pub returns-clause-raw : goal.returns-clause-raw
returns-clause-raw c = are_bytes c.args.raw 6 (search rules) (search rules)

pub returns-clause-currency : goal.returns-clause-currency
returns-clause-currency c = are_bytes c.args.currency 2 (search rules) (search rules)

pub returns-clause-date : goal.returns-clause-date
returns-clause-date c = are_bytes c.args.date 3 (search rules) (search rules)
