use Rattle.std.proofs.Common.{◌≡◌, ◌+◌, ◌++◌, ◌≤◌, length, arith, length-append, sym, ap, ◌∙◌, subst}
use Rattle.ber_tlv.specs.Item.{AreBytes}
use Rattle.ber_tlv.specs.Left.{items_behind}
use Rattle.ber_tlv.specs.Seen.{seen}
use Rattle.ber_tlv.specs.Written.{written}
use Rattle.iso_message.proofs.Rewritten.{rewritten, one_more, within_item}
use Rattle.iso_message.proofs.written.is_as_written.Goals as goal

pub unreachable-requires : goal.unreachable-requires
unreachable-requires c =
    let bytes = c.loop-item.cursor.bytes in
    let are : AreBytes bytes = subst AreBytes (sym c.loop-item.invariant.same_bytes) c.requires.bytes in
    let item = seen c.in-Ok-Some.item in
    let bound : length c.loop-item.again.items + length (written item.tag item.value) ≤ c.next.new.self.place =
    within_item bytes c.loop-item.cursor.place item c.next.new.self.place (length c.loop-item.again.items) (rw c.in-Ok-Some.field-0-is at c.in-Ok-Some.ensures.item)
    (λ start other. c.write_item.ensures.shortest bytes start other are) c.loop-item.invariant.short in
    let within : c.next.new.self.place ≤ 9999 = omega (arith, ap length c.next.ensures.same_bytes, ap length c.loop-item.invariant.same_bytes) in
    let fits = c.write_item.ensures.fits.1 (omega arith) in
    let fails = c.if-is_err.ensures.negation in
    cc

pub loop-item-preserved : goal.loop-item-preserved
loop-item-preserved c =
    let bytes = c.loop-item.cursor.bytes in
    let are : AreBytes bytes = subst AreBytes (sym c.loop-item.invariant.same_bytes) c.requires.bytes in
    let item = seen c.in-Ok-Some.item in
    let bound : length c.loop-item.again.items + length (written item.tag item.value) ≤ c.next.new.self.place =
    within_item bytes c.loop-item.cursor.place item c.next.new.self.place (length c.loop-item.again.items) (rw c.in-Ok-Some.field-0-is at c.in-Ok-Some.ensures.item)
    (λ start other. c.write_item.ensures.shortest bytes start other are) c.loop-item.invariant.short in
    let out : c.write_item.new.out.items ≡ c.loop-item.again.items ++ written item.tag item.value = grind arith in
    record {
      same_bytes = c.next.ensures.same_bytes ∙ c.loop-item.invariant.same_bytes;
      within = omega (arith, ap length c.next.ensures.same_bytes, ap length c.loop-item.invariant.same_bytes);
      short = omega (arith, ap length out, length-append c.loop-item.again.items (written item.tag item.value));
      same =
          ap (λ b. rewritten b (items_behind c.next.new.self.bytes c.next.new.self.place)) out
          ∙ one_more c.loop-item.again.items item (items_behind c.next.new.self.bytes c.next.new.self.place)
          ∙ ap (rewritten c.loop-item.again.items) (rw c.in-Ok-Some.field-0-is at c.in-Ok-Some.ensures.left)
          ∙ c.loop-item.invariant.same;
    }
