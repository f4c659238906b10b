use Rattle.host_at_lines.proofs.Standing.{none_answered}
use Rattle.host_at_lines.proofs.at_lines.begin.Goals as goal

pub returns-clause-begun : goal.returns-clause-begun
returns-clause-begun c = none_answered c.args.host c.args.accounts.now c.new-calls.result.items c.requires.begun c.requires.accounts c.new-calls.ensures.items
