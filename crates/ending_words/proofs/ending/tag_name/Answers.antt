use Rattle.ending_words.specs.Endings.{tag_name}
use Rattle.ending_words.proofs.ending.tag_name.Goals as goal

pub returns : goal.returns
unfolding tag_name
returns c = c.name_of.ensures
