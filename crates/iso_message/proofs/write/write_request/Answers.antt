use Rattle.std.proofs.Common.{◌≡◌, ◌<◌, ◌++◌, [], length, ap, ◌∙◌, sym, subst, codes, arith}
use Rattle.std.specs.Prelude.{is_some, unwrap_or}
use Rattle.emv_dict.specs.Digits.{AllDecimal}
use Rattle.auth_message.specs.Data.{RequestData}
use Rattle.auth_message.specs.Spelling.{optional, spelled}
use Rattle.auth_message.specs.declared.groups.Named.{Named}
use Rattle.auth_message.specs.declared.groups.Paid.{Paid}
use Rattle.auth_message.proofs.Again.{RequestSizes}
use Rattle.iso_message.specs.Items.{icc_items, icc_of, request_items}
use Rattle.iso_message.specs.Layout.{bitmap, request_numbers}
use Rattle.iso_message.specs.Spelling.{iso_request_bytes, account_number_field, processing_field, amount_field, audit_field, reference_field, terminal_field, currency_field}
use Rattle.iso_message.specs.Text.{with_length}
use Rattle.iso_message.proofs.Calls.{request_rest, request_split, request_again}
use Rattle.iso_message.proofs.Joined.{nine_joined, request_items_joined}
use Rattle.iso_message.proofs.write.write_request.Goals as goal

pub returns-clause-exact : goal.returns-clause-exact
returns-clause-exact c =
    let i = c.request.inside in
    let n : Named = record { t9f1c = i.t9f1c; pan = i.pan; t5f34 = i.t5f34 } in
    let p : Paid = record { t9f02 = i.t9f02; t9f03 = i.t9f03; t9f1a = i.t9f1a; t95 = i.t95; t5f2a = i.t5f2a; t9a = i.t9a; t9c = i.t9c; t9f37 = i.t9f37; t82 = i.t82; t9f36 = i.t9f36; t9f26 = i.t9f26 } in
    let paid = c.paid.ensures ∙ ap (λ (d : RequestData). d.paid) (sym c.request.view_is) in
    let f : RequestData = record { named = n; t5f24 = i.t5f24; paid = p; t9f10 = i.t9f10.now; tdf11 = i.tdf11 } in
    let items : c.put-2.new.out.items ≡ spelled (request_items f) =
    rw (c.put-2.ensures.field, c.put_icc.ensures.fields, c.icc_data.ensures, paid, c.put.ensures.field, c.put_if_there.ensures.fields, c.new-items.ensures)
    (request_items_joined (optional 0x5F34 f.named.t5f34) (icc_items (icc_of f.paid)) f.t5f24 f.t9f10) in
    let whole : c.put_counted.new.out.items ≡ codes "0100" ++ request_rest f =
    rw (
      c.put_counted.ensures,
      c.deref.ensures.0,
      items,
      c.put_block.ensures.field,
      c.put_acceptor.ensures.field,
      c.put_numbers.ensures.field,
      c.put_processing.ensures.field,
      c.put_account.ensures.field,
      c.append-2.ensures.items,
      c.request_bits.ensures,
      c.is_some.ensures,
      c.append.ensures.items,
      c.clear.ensures,
    ) (nine_joined (codes "0100") (bitmap (request_numbers (is_some f.tdf11))) (account_number_field f.named.pan).1 (processing_field f.paid.t9c).1 (amount_field f.paid.t9f02).1 (audit_field f.paid.t9f36).1 (reference_field f.paid.t9f36).1 (terminal_field f.named.t9f1c).1 (currency_field f.paid.t5f2a).1 (unwrap_or f.tdf11 []) (with_length 4 (spelled (request_items f)))) in
    whole ∙ sym (request_split f) ∙ ap iso_request_bytes c.request.view_is

pub returns-clause-read_again : goal.returns-clause-read_again
returns-clause-read_again c =
    let i = c.request.inside in
    let p : Paid = record { t9f02 = i.t9f02; t9f03 = i.t9f03; t9f1a = i.t9f1a; t95 = i.t95; t5f2a = i.t5f2a; t9a = i.t9a; t9c = i.t9c; t9f37 = i.t9f37; t82 = i.t82; t9f36 = i.t9f36; t9f26 = i.t9f26 } in
    let paid = c.paid.ensures ∙ ap (λ (d : RequestData). d.paid) (sym c.request.view_is) in
    let items : c.put-2.new.out.items ≡ spelled (request_items c.args.request.now) =
    rw (c.put-2.ensures.field, c.put_icc.ensures.fields, c.icc_data.ensures, paid, c.put.ensures.field, c.put_if_there.ensures.fields, c.new-items.ensures)
    (request_items_joined (optional 0x5F34 i.t5f34) (icc_items (icc_of p)) i.t5f24 i.t9f10.now
    ∙ ap (λ (d : RequestData). spelled (request_items d)) c.request.view_is) in
    let decimal : AllDecimal c.args.request.now.named.pan = subst (λ (d : RequestData). AllDecimal d.named.pan) c.request.view_is c.put_account.ensures.decimal in
    let small : length (spelled (request_items c.args.request.now)) < 10000 =
    omega (arith, ap length items, ap length c.new-items.ensures, c.put-2.ensures.short, c.put_icc.ensures.short, c.put.ensures.short, c.put_if_there.ensures.short) in
    request_again c.args.request.now c.requires.accepted c.requires.codes decimal (subst RequestSizes c.request.view_is c.request.invariant) small
