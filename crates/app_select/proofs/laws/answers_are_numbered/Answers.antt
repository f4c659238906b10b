use Rattle.app_select.proofs.Lists.{listed-occurrences, listed-all}
use Rattle.app_select.proofs.laws.answers_are_numbered.Goals as goal

pub returns-clause-occurrences : goal.returns-clause-occurrences
returns-clause-occurrences c rows answers = listed-occurrences rows answers

pub returns-clause-all : goal.returns-clause-all
returns-clause-all c rows answers = listed-all rows answers
