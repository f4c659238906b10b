use Rattle.std.specs.Prelude.{codes}
use Rattle.report_lines.specs.Pieces.{text, number}
use Rattle.report_lines.proofs.Telling.{tells_then}
use Rattle.message_words.proofs.power.tell_tries.Goals as goal

pub returns : goal.returns
returns c = tells_then _ _ _ (text (codes ", PIN tries ")) (number c.args.counters.now.tries) c.text.ensures.told c.number.ensures
