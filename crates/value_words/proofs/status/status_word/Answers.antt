use Rattle.value_words.specs.Statuses.{status_word}
use Rattle.value_words.proofs.status.status_word.Goals as goal

pub returns : goal.returns
unfolding status_word
returns c = c.word_of.ensures
