use Rattle.std.proofs.Common.{◌≡◌, true, false, nat_lt, length, codes, arith}
use Rattle.std.proofs.lemmas.Bool.Decides.{nat_tests}
use Rattle.report_lines.specs.Pieces.{line, text}
use Rattle.report_lines.proofs.Telling.{tells_then}
use Rattle.exchange_words.proofs.answer.tell_no_response.Goals as goal

pub returns-then-answer-lt2 : goal.returns-then-answer-lt2
returns-then-answer-lt2 c =
    let few : nat_lt (length c.args.answer.now) 2 ≡ true = grind (arith, nat_tests) in
    rw few (tells_then _ _ _ (line 1) (text (codes "fewer than two bytes")) c.line.ensures c.text.ensures.told)

pub returns-else-answer-lt2 : goal.returns-else-answer-lt2
returns-else-answer-lt2 c =
    let many : nat_lt (length c.args.answer.now) 2 ≡ false = grind (arith, nat_tests) in
    rw many (tells_then _ _ _ (line 1) (text (codes "more than 258 bytes")) c.line.ensures c.text-else-answer-lt2.ensures.told)
