use Rattle.std.proofs.Common.{arith}
use Rattle.std.proofs.lemmas.Bool.Decides.{nat_tests}
use Rattle.value_words.proofs.Places.{count-next, count-end}
use Rattle.value_words.proofs.plain.digits_in.Goals as goal

pub loop-byte-preserved : goal.loop-byte-preserved
loop-byte-preserved c =
    let next = count-next c.args.value.now c.loop-byte.byte-index (omega arith) in
    record { few = grind (arith, nat_tests); left = grind (arith, nat_tests) }

pub returns : goal.returns
returns c =
    let end = count-end c.args.value.now c.loop-byte.byte-index (omega arith) in
    grind (arith, nat_tests)
