use Rattle.std.proofs.Common.{◌≡◌, length, rules, refl, arith}
use Rattle.emv_dict.specs.Nibbles.{packed}
use Rattle.pin_block.proofs.Packing.{packed_more}
use Rattle.pin_block.proofs.block.pack.Goals as goal

pub loop-i-init : goal.loop-i-init
unfolding packed
loop-i-init c = record { size = refl; so_far = refl }

pub loop-i-preserved : goal.loop-i-preserved
loop-i-preserved c =
    let sixteen : length c.args.digits ≡ 16 = search rules in
    record {
      size = search rules;
      so_far = packed_more c.loop-i.bytes c.args.digits c.loop-i.i (omega arith) (omega arith) c.loop-i.invariant.so_far;
    }
