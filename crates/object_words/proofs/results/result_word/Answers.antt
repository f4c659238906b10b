use Rattle.object_words.specs.Results.{result_word}
use Rattle.object_words.proofs.results.result_word.Goals as goal

pub returns : goal.returns
unfolding result_word
returns c = c.word_of.ensures
