use Rattle.ber_tlv.proofs.FirstBytes.{constructed_bit}
use Rattle.ber_tlv.proofs.tag.is_constructed.Goals as goal

pub returns-clause-bit : goal.returns-clause-bit
returns-clause-bit c = rw c.first_byte.ensures (constructed_bit c.args.tag.0)
