use Rattle.scenario_fields.proofs.Packing.{packed_three}
use Rattle.scenario_fields.proofs.spot.code_bytes.Goals as goal

pub returns-clause-packed : goal.returns-clause-packed
returns-clause-packed c = rw c.as_slice-digits.ensures.value (packed_three c.args.digits.now c.requires)
