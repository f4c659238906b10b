use Rattle.std.proofs.Common.{◌≡◌, ap, ◌∙◌, arith}
use Rattle.ber_tlv.specs.Written.{written}
use Rattle.auth_message.specs.Spelling.{reversal_bytes, reversal_fields, reversal_named, named_fields, spelled}
use Rattle.auth_message.specs.declared.message.Incoming.TheVariants.{Reverse}
use Rattle.auth_message.proofs.Spelled.{reversal_joined}
use Rattle.auth_message.proofs.Again.{reversal_again, ReversalSizes, written_message}
use Rattle.auth_message.proofs.write.write_reversal.Goals as goal

pub returns-clause-exact : goal.returns-clause-exact
unfolding reversal_bytes
returns-clause-exact c =
    let f = c.args.fields.now in
    let content : c.put-4.new.out.items ≡ spelled (reversal_fields f) =
    rw (c.put-4.ensures.field, c.put-3.ensures.field, c.put-2.ensures.field, c.put.ensures.field, c.put_named.ensures.fields, c.new-value.ensures, c.copy.ensures)
    (reversal_joined (named_fields (reversal_named f)) f.t9f36 f.t9f02 f.t5f2a f.t8a) in
    c.finish.ensures ∙ ap (written 0xE4) (c.deref.ensures.0 ∙ content)

pub returns-clause-read_again : goal.returns-clause-read_again
returns-clause-read_again c =
    let f = c.args.fields.now in
    let sizes : ReversalSizes f = (omega arith, c.put_named.ensures.sequence, omega arith, omega arith, omega arith, omega arith) in
    reversal_again f c.requires (rw c.copy.ensures at c.put_named.ensures.read_again) sizes

pub returns-clause-message : goal.returns-clause-message
returns-clause-message c = λ codes. written_message _ (Reverse c.args.fields.now) (returns-clause-exact c) (returns-clause-read_again c) c.requires codes
