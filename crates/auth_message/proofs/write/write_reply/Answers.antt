use Rattle.std.proofs.Common.{◌≡◌, ap, append_assoc, Option, Some, None, IfSome, Bor, List, ℕ, ◌≤◌, length, arith}
use Rattle.ber_tlv.specs.Written.{written}
use Rattle.auth_message.specs.Spelling.{reply_bytes}
use Rattle.std.specs.Prelude.{option_map}
use Rattle.auth_message.proofs.ReplyAgain.{reply_again, IsAuth}
use Rattle.auth_message.proofs.write.write_reply.Goals as goal

pub returns-clause-exact : goal.returns-clause-exact
unfolding reply_bytes
returns-clause-exact c =
    rw (c.finish.ensures, c.deref.ensures.0, c.append.ensures.items, c.put_bytes_if_there.ensures.fields, c.put.ensures.field, c.new-value.ensures)
    (ap (written 0xE2) (simp append_assoc))

seen_auth : (auth : Option (Bor (List ℕ))) → IfSome auth (λ value. (8 ≤ length value.now) × (length value.now ≤ 16)) → IfSome (option_map (λ value. value.now) auth) IsAuth
seen_auth None is = tt
seen_auth (Some value) is = is

pub returns-clause-read_again : goal.returns-clause-read_again
returns-clause-read_again c =
    let two : length c.args.code ≡ 2 = omega arith in
    reply_again c.args.code (option_map (λ value. value.now) c.args.auth) c.args.scripts.now two (seen_auth c.args.auth c.requires.auth) c.requires.scripts
