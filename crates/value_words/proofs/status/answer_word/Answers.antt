use Rattle.value_words.specs.Statuses.{answer_word}
use Rattle.value_words.proofs.status.answer_word.Goals as goal

pub returns : goal.returns
unfolding answer_word
returns c = c.word_of.ensures
