use Rattle.std.proofs.Common.{◌≡◌, ◌==◌, false, arith}
use Rattle.std.proofs.lemmas.Bool.Decides.{nat_tests}
use Rattle.object_words.proofs.track.tell_discretionary.Goals as goal

pub returns-then-count-ne0 : goal.returns-then-count-ne0
returns-then-count-ne0 c =
    let some : (c.args.count == 0) ≡ false = grind (arith, nat_tests) in
    rw some c.tell_part.ensures
