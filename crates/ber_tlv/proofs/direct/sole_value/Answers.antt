use Rattle.ber_tlv.proofs.SoleItem.{sole_value-written}
use Rattle.ber_tlv.proofs.direct.sole_value.Goals as goal

pub returns-in_default-clause-written : goal.returns-in_default-clause-written
returns-in_default-clause-written c = sole_value-written c.args.tag.0 c.args.bytes.now

pub returns-then-eq-clause-written : goal.returns-then-eq-clause-written
returns-then-eq-clause-written c = sole_value-written c.args.tag.0 c.args.bytes.now

pub returns-else-eq-clause-written : goal.returns-else-eq-clause-written
returns-else-eq-clause-written c = sole_value-written c.args.tag.0 c.args.bytes.now

pub returns-in_default-next-clause-written : goal.returns-in_default-next-clause-written
returns-in_default-next-clause-written c = sole_value-written c.args.tag.0 c.args.bytes.now
