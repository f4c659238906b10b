use Rattle.std.proofs.Common.{◌≡◌, ◌++◌, length, List, ℕ, arith, length-append, ap}
use Rattle.ber_tlv.specs.Written.{written}
use Rattle.auth_message.proofs.Sizes.{written_short}
use Rattle.iso_message.proofs.write.put.Goals as goal

pub returns-clause-short : goal.returns-clause-short
returns-clause-short c =
    let out : List ℕ = c.write_item.new.out.items in
    let appended : out ≡ c.args.out.now.items ++ written c.args.tag c.args.value.now = grind arith in
    omega (arith, ap length appended, length-append c.args.out.now.items (written c.args.tag c.args.value.now), written_short c.args.tag c.args.value.now)
