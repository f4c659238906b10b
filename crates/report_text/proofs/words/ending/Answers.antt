use Rattle.std.proofs.Common.{append_assoc}
use Rattle.report_text.specs.Words.{ending_text}
use Rattle.report_text.proofs.words.ending.Goals as goal

pub returns-in-Terminated-clause-text : goal.returns-in-Terminated-clause-text
unfolding ending_text
returns-in-Terminated-clause-text c =
    rw (c.cause.ensures.text, c.append-in-Terminated-3.ensures.text, c.append-in-Terminated-2.ensures.text, c.append-in-Terminated.ensures.text, c.step_word.ensures.word, c.in-Terminated.is)
    (simp append_assoc)
