use Rattle.scenario_fields.proofs.Keys.{least_other_view}
use Rattle.scenario_fields.proofs.fields.least_other.Goals as goal

pub returns : goal.returns
returns c =
    least_other_view c.first_other.result c.args.known.now c.args.table.now.entries c.first_other.ensures.ordered c.first_other.ensures.found
