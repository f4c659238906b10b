use Rattle.value_words.specs.Rules.{condition_word}
use Rattle.value_words.proofs.lists.condition_word.Goals as goal

pub returns : goal.returns
unfolding condition_word
returns c = c.word_of.ensures
