use Rattle.exchange_words.specs.Commands.{name_of_command}
use Rattle.exchange_words.proofs.command.name_of_command.Goals as goal

pub returns : goal.returns
unfolding name_of_command
returns c = c.word_of.ensures
