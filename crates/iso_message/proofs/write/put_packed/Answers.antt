use Rattle.std.proofs.Common.{arith, refl, slice_index}
use Rattle.iso_message.proofs.Numerals.{packed_more, no_digits}
use Rattle.iso_message.proofs.write.put_packed.Goals as goal

pub loop-byte-init : goal.loop-byte-init
loop-byte-init c = record { long = omega arith; field = no_digits c.args.out.now.items }

pub loop-byte-preserved : goal.loop-byte-preserved
loop-byte-preserved c = record {
  long = omega arith;
  field =
      rw (c.push-in-loop-byte.ensures.items, c.push.ensures.items, c.loop-byte.invariant.field)
      (packed_more c.args.out.now.items c.args.bytes.now c.loop-byte.byte-index (slice_index c.args.bytes.now c.loop-byte.byte-index) (omega arith) refl);
}
