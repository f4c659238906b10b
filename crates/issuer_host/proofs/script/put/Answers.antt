use Rattle.std.proofs.Common.{◌≡◌, ◌++◌, length, List, ℕ, arith, length-append, ap}
use Rattle.ber_tlv.specs.Written.{written}
use Rattle.issuer_host.proofs.Sizes.{written_size}
use Rattle.issuer_host.proofs.script.put.Goals as goal

pub returns-clause-sized : goal.returns-clause-sized
returns-clause-sized c =
    let out : List ℕ = c.write_item.new.out.items in
    let appended : out ≡ c.args.out.now.items ++ written c.args.tag.0 c.args.value.now = grind arith in
    omega (arith, ap length appended, length-append c.args.out.now.items (written c.args.tag.0 c.args.value.now), written_size c.args.tag.0 c.args.value.now)
