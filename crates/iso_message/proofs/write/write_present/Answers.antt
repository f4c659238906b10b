use Rattle.std.proofs.Common.{◌≡◌, ◌<◌, ◌++◌, length, ap, ◌∙◌, sym, subst, codes, arith}
use Rattle.emv_dict.specs.Digits.{AllDecimal}
use Rattle.auth_message.specs.Data.{PresentData}
use Rattle.auth_message.specs.Spelling.{optional, spelled}
use Rattle.auth_message.specs.declared.groups.Named.{Named}
use Rattle.auth_message.specs.declared.groups.Paid.{Paid}
use Rattle.auth_message.proofs.Again.{PresentSizes}
use Rattle.iso_message.specs.Items.{icc_items, icc_of, present_items}
use Rattle.iso_message.specs.Layout.{bitmap, present_numbers}
use Rattle.iso_message.specs.Spelling.{iso_present_bytes, account_number_field, processing_field, amount_field, audit_field, reference_field, terminal_field, currency_field}
use Rattle.iso_message.specs.Text.{with_length}
use Rattle.iso_message.proofs.Calls.{present_rest, present_split, present_again}
use Rattle.iso_message.proofs.Joined.{nine_joined, present_items_joined}
use Rattle.iso_message.proofs.write.write_present.Goals as goal

pub returns-clause-exact : goal.returns-clause-exact
returns-clause-exact c =
    let i = c.fields.inside in
    let n : Named = record { t9f1c = i.t9f1c; pan = i.pan; t5f34 = i.t5f34 } in
    let p : Paid = record { t9f02 = i.t9f02; t9f03 = i.t9f03; t9f1a = i.t9f1a; t95 = i.t95; t5f2a = i.t5f2a; t9a = i.t9a; t9c = i.t9c; t9f37 = i.t9f37; t82 = i.t82; t9f36 = i.t9f36; t9f26 = i.t9f26 } in
    let paid = c.paid.ensures ∙ ap (λ (d : PresentData). d.paid) (sym c.fields.view_is) in
    let f : PresentData = record { named = n; paid = p; t9f10 = i.t9f10.now; t8a = i.t8a } in
    let items : c.put.new.out.items ≡ spelled (present_items f) =
    rw (c.put.ensures.field, c.put_icc.ensures.fields, c.icc_data.ensures, paid, c.put_if_there.ensures.fields, c.new-items.ensures)
    (present_items_joined (optional 0x5F34 f.named.t5f34) (icc_items (icc_of f.paid)) f.t9f10) in
    let whole : c.put_counted.new.out.items ≡ codes "0220" ++ present_rest f =
    rw (
      c.put_counted.ensures,
      c.deref.ensures.0,
      items,
      c.put_acceptor.ensures.field,
      c.append-3.ensures.items,
      c.put_numbers.ensures.field,
      c.put_processing.ensures.field,
      c.put_account.ensures.field,
      c.append-2.ensures.items,
      c.present_bits.ensures,
      c.append.ensures.items,
      c.clear.ensures,
    ) (nine_joined (codes "0220") (bitmap present_numbers) (account_number_field f.named.pan).1 (processing_field f.paid.t9c).1 (amount_field f.paid.t9f02).1 (audit_field f.paid.t9f36).1 (reference_field f.paid.t9f36).1 f.t8a (terminal_field f.named.t9f1c).1 (currency_field f.paid.t5f2a).1 (with_length 4 (spelled (present_items f)))) in
    whole ∙ sym (present_split f) ∙ ap iso_present_bytes c.fields.view_is

pub returns-clause-read_again : goal.returns-clause-read_again
returns-clause-read_again c =
    let i = c.fields.inside in
    let p : Paid = record { t9f02 = i.t9f02; t9f03 = i.t9f03; t9f1a = i.t9f1a; t95 = i.t95; t5f2a = i.t5f2a; t9a = i.t9a; t9c = i.t9c; t9f37 = i.t9f37; t82 = i.t82; t9f36 = i.t9f36; t9f26 = i.t9f26 } in
    let paid = c.paid.ensures ∙ ap (λ (d : PresentData). d.paid) (sym c.fields.view_is) in
    let items : c.put.new.out.items ≡ spelled (present_items c.args.fields.now) =
    rw (c.put.ensures.field, c.put_icc.ensures.fields, c.icc_data.ensures, paid, c.put_if_there.ensures.fields, c.new-items.ensures)
    (present_items_joined (optional 0x5F34 i.t5f34) (icc_items (icc_of p)) i.t9f10.now
    ∙ ap (λ (d : PresentData). spelled (present_items d)) c.fields.view_is) in
    let decimal : AllDecimal c.args.fields.now.named.pan = subst (λ (d : PresentData). AllDecimal d.named.pan) c.fields.view_is c.put_account.ensures.decimal in
    let small : length (spelled (present_items c.args.fields.now)) < 10000 =
    omega (arith, ap length items, ap length c.new-items.ensures, c.put_icc.ensures.short, c.put.ensures.short, c.put_if_there.ensures.short) in
    present_again c.args.fields.now c.requires.accepted c.requires.codes decimal (subst PresentSizes c.fields.view_is c.fields.invariant) small
