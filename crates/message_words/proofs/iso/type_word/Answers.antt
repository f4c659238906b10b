use Rattle.message_words.specs.Iso.{type_word}
use Rattle.message_words.proofs.iso.type_word.Goals as goal

pub returns : goal.returns
unfolding type_word
returns c = c.word_of.ensures
