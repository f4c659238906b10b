use Rattle.std.proofs.Common.{◌≡◌, ap, ◌∙◌, subst, sym}
use Rattle.ber_tlv.specs.Written.{written}
use Rattle.auth_message.specs.Data.{PresentData}
use Rattle.auth_message.specs.Spelling.{present_bytes, present_fields, spelled, named_fields, paid_fields}
use Rattle.auth_message.specs.declared.groups.Named.{Named}
use Rattle.auth_message.specs.declared.groups.Paid.{Paid}
use Rattle.auth_message.specs.declared.message.Incoming.TheVariants.{Present}
use Rattle.auth_message.proofs.Spelled.{present_joined}
use Rattle.auth_message.proofs.Again.{present_again, PresentSizes, written_message}
use Rattle.auth_message.proofs.write.write_presentment.Goals as goal

pub returns-clause-exact : goal.returns-clause-exact
unfolding present_bytes
returns-clause-exact c =
    let i = c.fields.inside in
    let n : Named = record { t9f1c = i.t9f1c; pan = i.pan; t5f34 = i.t5f34 } in
    let p : Paid = record { t9f02 = i.t9f02; t9f03 = i.t9f03; t9f1a = i.t9f1a; t95 = i.t95; t5f2a = i.t5f2a; t9a = i.t9a; t9c = i.t9c; t9f37 = i.t9f37; t82 = i.t82; t9f36 = i.t9f36; t9f26 = i.t9f26 } in
    let named = c.named.ensures ∙ ap (λ (d : PresentData). d.named) (sym c.fields.view_is) in
    let paid = c.paid.ensures ∙ ap (λ (d : PresentData). d.paid) (sym c.fields.view_is) in
    let content : c.put-2.new.out.items ≡ spelled (present_fields c.args.fields.now) =
    rw (c.put-2.ensures.field, c.put.ensures.field, c.put_paid.ensures.fields, c.put_named.ensures.fields, c.new-value.ensures, named, paid)
    (present_joined (named_fields n) (paid_fields p) i.t9f10.now i.t8a ∙ ap (λ d. spelled (present_fields d)) c.fields.view_is) in
    c.finish.ensures ∙ ap (written 0xE3) (c.deref.ensures.0 ∙ content)

pub returns-clause-read_again : goal.returns-clause-read_again
returns-clause-read_again c =
    present_again c.args.fields.now c.requires (rw c.named.ensures at c.put_named.ensures.read_again) (subst PresentSizes c.fields.view_is c.fields.invariant)

pub returns-clause-message : goal.returns-clause-message
returns-clause-message c = λ codes. written_message _ (Present c.args.fields.now) (returns-clause-exact c) (returns-clause-read_again c) c.requires codes
