use Rattle.std.proofs.Common.{◌≡◌, ◌<◌, ◌++◌, length, ap, ◌∙◌, sym, subst, arith, length-append}
use Rattle.std.specs.Prelude.{option_map}
use Rattle.auth_message.specs.Reply.{ReplyData}
use Rattle.auth_message.specs.Spelling.{spelled}
use Rattle.iso_message.specs.Items.{reply_items}
use Rattle.iso_message.specs.Layout.{bitmap, reply_numbers, reply_type}
use Rattle.iso_message.specs.Spelling.{iso_reply_bytes}
use Rattle.iso_message.specs.Text.{with_length}
use Rattle.iso_message.proofs.Joined.{reply_joined}
use Rattle.iso_message.proofs.Replies.{reply_rest, reply_split, reply_again, apart}
use Rattle.iso_message.proofs.write.write_iso_reply.Goals as goal

pub returns-clause-exact : goal.returns-clause-exact
returns-clause-exact c =
    let i = c.reply.inside in
    let r : ReplyData = record { code = i.code; auth = option_map (λ v. v.now) i.auth; scripts = i.scripts.now } in
    let whole : c.put_counted.new.out.items ≡ reply_type c.args.kind ++ reply_rest r =
    rw (
      c.put_counted.ensures,
      c.deref.ensures.0,
      c.append-4.ensures.items,
      c.put_auth.ensures.fields,
      c.new-items.ensures,
      c.append-3.ensures.items,
      c.append-2.ensures.items,
      c.reply_bits.ensures,
      c.append.ensures.items,
      c.reply_type.ensures,
      c.clear.ensures,
    ) (reply_joined (reply_type c.args.kind) (bitmap reply_numbers) r.code (with_length 4 (spelled (reply_items r.auth) ++ r.scripts))) in
    whole ∙ sym (reply_split c.args.kind r) ∙ ap (iso_reply_bytes c.args.kind) c.reply.view_is

pub returns-clause-read_again : goal.returns-clause-read_again
returns-clause-read_again c =
    let r = c.args.reply.now in
    let i = c.reply.inside in
    let auth : c.put_auth.new.out.items ≡ spelled (reply_items r.auth) =
    rw (c.put_auth.ensures.fields, c.new-items.ensures) (ap (λ (d : ReplyData). spelled (reply_items d.auth)) c.reply.view_is) in
    let two : length r.code ≡ 2 = subst (λ (d : ReplyData). length d.code ≡ 2) c.reply.view_is (omega arith) in
    let small : length (spelled (reply_items r.auth) ++ r.scripts) < 10000 =
    omega (arith, length-append (spelled (reply_items r.auth)) r.scripts, ap length auth, c.put_auth.ensures.short, ap length c.new-items.ensures, c.requires.scripts.short) in
    reply_again c.args.kind r two c.requires.auth c.requires.scripts small

pub returns-clause-apart : goal.returns-clause-apart
returns-clause-apart c = λ of other again same. apart of c.args.kind other c.args.reply.now again (returns-clause-read_again c) same
