use Rattle.std.proofs.Common.{arith}
use Rattle.scenario.proofs.Listed.{status_small, status_rule}
use Rattle.scenario.proofs.account.status_at.Goals as goal

pub overflow_cast-status : goal.overflow_cast-status
overflow_cast-status c = omega (arith, status_small c.in_ok-number.number c.in_ok-number.ensures.among)

pub returns-clause-rule : goal.returns-clause-rule
returns-clause-rule c = status_rule c.in_ok-number.number c.in_ok-number.ensures.among
