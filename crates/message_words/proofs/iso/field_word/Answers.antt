use Rattle.message_words.specs.Iso.{field_word}
use Rattle.message_words.proofs.iso.field_word.Goals as goal

pub returns : goal.returns
unfolding field_word
returns c = c.word_of.ensures
