use Rattle.narrator.specs.Words.{refusal_word}
use Rattle.narrator.proofs.report.refusal_word.Goals as goal

pub returns : goal.returns
unfolding refusal_word
returns c = c.word_of.ensures
