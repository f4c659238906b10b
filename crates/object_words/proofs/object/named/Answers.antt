use Rattle.object_words.specs.Objects.{name_of}
use Rattle.object_words.proofs.object.named.Goals as goal

pub returns : goal.returns
unfolding name_of
returns c = c.name_of.ensures
