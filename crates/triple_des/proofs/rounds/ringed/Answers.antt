use Rattle.std.proofs.Common.{ℕ, ◌*◌, ◌/◌, ◌%◌, ◌+◌, ap, ◌∙◌}
use Rattle.triple_des.specs.Bits.{bits}
use Rattle.triple_des.proofs.Boxes.{bits-ringed}
use Rattle.triple_des.proofs.rounds.ringed.Goals as goal

pub returns : goal.returns
returns c =
    ap (λ (w : ℕ). bits 34 (w % 2 * 8589934592 + w * 2 + w / 2147483648)) c.from-half.ensures ∙ bits-ringed c.args.half c.ranges.half.fits
