use Rattle.std.proofs.Common.{arith}
use Rattle.scenario_fields.proofs.Counts.{count_items}
use Rattle.scenario_fields.proofs.spot.count_of.Goals as goal

pub returns-clause-elements : goal.returns-clause-elements
returns-clause-elements c = omega (arith, count_items c.args.array.now.items)
