use Rattle.ending_words.specs.Endings.{cause_word}
use Rattle.ending_words.proofs.ending.cause_word.Goals as goal

pub returns : goal.returns
unfolding cause_word
returns c = c.word_of_text.ensures
