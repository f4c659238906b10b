use Rattle.ending_words.specs.Endings.{step_in_words}
use Rattle.ending_words.proofs.ending.step_word.Goals as goal

pub returns : goal.returns
unfolding step_in_words
returns c = c.word_of_text.ensures
