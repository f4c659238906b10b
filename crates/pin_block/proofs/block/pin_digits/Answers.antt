use Rattle.std.proofs.Common.{◌≡◌, ◌*◌, length, rules, arith}
use Rattle.emv_dict.specs.Nibbles.{nibbles}
use Rattle.emv_dict.proofs.HexDigits.{length-nibbles}
use Rattle.pin_block.proofs.Packing.{copied_more}
use Rattle.pin_block.proofs.block.pin_digits.Goals as goal

pub loop-i-preserved : goal.loop-i-preserved
loop-i-preserved c =
    let eight : length c.args.bytes ≡ 8 = search rules in
    let sixteen : length (nibbles c.args.bytes) ≡ 2 * length c.args.bytes = length-nibbles c.args.bytes in
    record {
      size = search rules;
      so_far =
          copied_more c.loop-i.numbers (nibbles c.args.bytes) c.loop-i.i c.nibble_at.result (omega arith) (omega arith)
          c.nibble_at.ensures.value c.loop-i.invariant.so_far;
    }
