use Rattle.object_words.specs.Issuer.{response_word}
use Rattle.object_words.proofs.issuer.response_word.Goals as goal

pub returns : goal.returns
unfolding response_word
returns c = c.word_of.ensures
