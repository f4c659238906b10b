use Rattle.triple_des.proofs.Boxes.{merged_bits}
use Rattle.triple_des.proofs.rounds.merged.Goals as goal

pub returns : goal.returns
returns c = merged_bits c.args.number c.args.six c.requires.boxes c.requires.bits
