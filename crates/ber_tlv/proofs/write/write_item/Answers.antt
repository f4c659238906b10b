use Rattle.std.proofs.Common.{◌≡◌, ◌++◌, append_assoc}
use Rattle.ber_tlv.specs.Written.{written}
use Rattle.ber_tlv.proofs.ReadAgain.{appended_read}
use Rattle.ber_tlv.proofs.Spelling.{item_at-least}
use Rattle.ber_tlv.proofs.write.write_item.Goals as goal

pub returns-clause-read_again : goal.returns-clause-read_again
unfolding written
returns-clause-read_again g c =
    let appended : c.append-3.new.out.items ≡ c.args.out.now.items ++ written c.args.tag.0 c.args.value.now =
    rw (
      c.append-3.ensures.items,
      c.append-2.ensures.items,
      c.append.ensures.items,
      c.deref-2.ensures.0,
      c.deref.ensures.0,
      c.length_bytes.ensures,
      c.tag_bytes.ensures.bytes,
    ) (simp append_assoc) in
    appended_read _ _ c.args.tag.0 c.args.value.now appended c.requires.readable

pub returns-clause-shortest : goal.returns-clause-shortest
returns-clause-shortest g c = λ bytes start next all stands.
    item_at-least bytes start (record { tag = c.args.tag.0; value = c.args.value.now; start = start }) next all stands

pub returns-then-needed-free-clause-shortest : goal.returns-then-needed-free-clause-shortest
returns-then-needed-free-clause-shortest g c = λ bytes start next all stands.
    item_at-least bytes start (record { tag = c.args.tag.0; value = c.args.value.now; start = start }) next all stands
