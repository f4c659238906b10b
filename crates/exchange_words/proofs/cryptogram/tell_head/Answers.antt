use Rattle.std.proofs.Common.{◌≡◌, ◌==◌, true, false, codes, arith}
use Rattle.std.proofs.lemmas.Bool.Decides.{nat_tests}
use Rattle.report_lines.specs.Pieces.{line, text}
use Rattle.report_lines.proofs.Telling.{tells_then}
use Rattle.exchange_words.proofs.cryptogram.tell_head.Goals as goal

pub returns-then-lane-eq0 : goal.returns-then-lane-eq0
returns-then-lane-eq0 c =
    let first : (c.args.lane.now.cryptograms == 0) ≡ true = grind (arith, nat_tests) in
    rw first (tells_then _ _ _ (line 1) (text (codes "GENERATE AC, the first: asks for ")) c.line.ensures c.text.ensures.told)

pub returns-else-lane-eq0 : goal.returns-else-lane-eq0
returns-else-lane-eq0 c =
    let second : (c.args.lane.now.cryptograms == 0) ≡ false = grind (arith, nat_tests) in
    rw second (tells_then _ _ _ (line 1) (text (codes "GENERATE AC, the second: asks for ")) c.line.ensures c.text-else-lane-eq0.ensures.told)
