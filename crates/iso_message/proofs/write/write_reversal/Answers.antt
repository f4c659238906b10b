use Rattle.std.proofs.Common.{◌≡◌, ◌<◌, ◌++◌, length, ap, ◌∙◌, sym, codes, arith}
use Rattle.auth_message.specs.Spelling.{optional, spelled}
use Rattle.auth_message.proofs.Again.{ReversalSizes}
use Rattle.iso_message.specs.Items.{reversal_items}
use Rattle.iso_message.specs.Layout.{bitmap, reversal_numbers}
use Rattle.iso_message.specs.Spelling.{account_number_field, amount_field, audit_field, reference_field, terminal_field, currency_field}
use Rattle.iso_message.specs.Text.{with_length}
use Rattle.iso_message.proofs.Calls.{reversal_rest, reversal_split, reversal_again}
use Rattle.iso_message.proofs.Joined.{eight_joined, reversal_items_joined}
use Rattle.iso_message.proofs.write.write_reversal.Goals as goal

pub returns-clause-exact : goal.returns-clause-exact
returns-clause-exact c =
    let f = c.args.fields.now in
    let items : c.put.new.out.items ≡ spelled (reversal_items f) =
    rw (c.put.ensures.field, c.put_if_there.ensures.fields, c.new-items.ensures) (reversal_items_joined (optional 0x5F34 f.t5f34) f.t9f36) in
    let whole : c.put_counted.new.out.items ≡ codes "0400" ++ reversal_rest f =
    rw (
      c.put_counted.ensures,
      c.deref.ensures.0,
      items,
      c.put_acceptor.ensures.field,
      c.append-3.ensures.items,
      c.put_numbers.ensures.field,
      c.put_account.ensures.field,
      c.append-2.ensures.items,
      c.reversal_bits.ensures,
      c.append.ensures.items,
      c.clear.ensures,
    ) (eight_joined (codes "0400") (bitmap reversal_numbers) (account_number_field f.pan).1 (amount_field f.t9f02).1 (audit_field f.t9f36).1 (reference_field f.t9f36).1 f.t8a (terminal_field f.t9f1c).1 (currency_field f.t5f2a).1 (with_length 4 (spelled (reversal_items f)))) in
    whole ∙ sym (reversal_split f)

pub returns-clause-read_again : goal.returns-clause-read_again
returns-clause-read_again c =
    let f = c.args.fields.now in
    let items : c.put.new.out.items ≡ spelled (reversal_items f) =
    rw (c.put.ensures.field, c.put_if_there.ensures.fields, c.new-items.ensures) (reversal_items_joined (optional 0x5F34 f.t5f34) f.t9f36) in
    let sizes : ReversalSizes f = (c.put_acceptor.ensures.sized.0, c.put_if_there.ensures.sized, c.put_numbers.ensures.sized.1, c.put_numbers.ensures.sized.0, c.put_acceptor.ensures.sized.1, omega arith) in
    let small : length (spelled (reversal_items f)) < 10000 = omega (arith, ap length items, ap length c.new-items.ensures, c.put.ensures.short, c.put_if_there.ensures.short) in
    reversal_again f c.requires.accepted c.requires.codes c.put_account.ensures.decimal sizes small
