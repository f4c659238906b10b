use Rattle.ber_tlv.proofs.Walking.{Spells-walk, no_fault-spelled}
use Rattle.ber_tlv.proofs.walk.deep_fault.Goals as goal

pub returns-clause-spelled : goal.returns-clause-spelled
returns-clause-spelled c =
    rw (c.fault_behind.ensures, c.new.ensures.bytes, c.new.ensures.place) (no_fault-spelled c.args.bytes.now)

pub returns-clause-walk : goal.returns-clause-walk
returns-clause-walk c = Spells-walk c.args.bytes.now 0
