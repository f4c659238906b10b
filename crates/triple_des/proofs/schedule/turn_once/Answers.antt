use Rattle.triple_des.proofs.Halves.{bits-rotated_left}
use Rattle.triple_des.proofs.schedule.turn_once.Goals as goal

pub returns-clause-bits : goal.returns-clause-bits
returns-clause-bits c = bits-rotated_left c.args.half c.requires
