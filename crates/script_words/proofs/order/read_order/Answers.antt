use Rattle.std.proofs.Common.{◌∙◌}
use Rattle.script_words.proofs.Spelled.{order_spelled, order_known, order_proper}
use Rattle.script_words.proofs.order.read_order.Goals as goal

pub returns-clause-spelled : goal.returns-clause-spelled
returns-clause-spelled c = rw c.ordered.ensures (order_spelled c.args.text.now)

pub returns-clause-known : goal.returns-clause-known
returns-clause-known c = λ order is same. c.ordered.ensures ∙ order_known order c.args.text.now is same

pub returns-clause-proper : goal.returns-clause-proper
returns-clause-proper c = rw c.ordered.ensures (order_proper c.args.text.now)
