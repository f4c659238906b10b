use Rattle.std.proofs.Common.{arith, map, refl, string_bytes}
use Rattle.std.proofs.lemmas.List.{length-map}
use Rattle.host_at_lines.proofs.Serving.{none_said, word_said}
use Rattle.host_at_lines.proofs.top.run.Goals as goal

pub returns-clause-served : goal.returns-clause-served
returns-clause-served g c =
    none_said (map string_bytes c.args.words.now) _ c.serve.result (let same = length-map c.args.words.now string_bytes in omega (arith, same, c.if-words-gt0.false)) c.serve.ensures.served

pub returns-then-words-gt0-clause-served : goal.returns-then-words-gt0-clause-served
returns-then-words-gt0-clause-served g c =
    word_said (map string_bytes c.args.words.now) _ c.answer_other.result (let same = length-map c.args.words.now string_bytes in omega (arith, same, c.if-words-gt0.true)) refl
    c.answer_other.ensures.told
