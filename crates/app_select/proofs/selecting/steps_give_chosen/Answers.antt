use Rattle.app_select.proofs.Chains.{first_selected-followed, selecting-followed}
use Rattle.app_select.proofs.selecting.steps_give_chosen.Goals as goal

pub returns-clause-listed : goal.returns-clause-listed
returns-clause-listed g c follow rows confirm answers = selecting-followed follow rows confirm answers

pub returns-clause-opened : goal.returns-clause-opened
returns-clause-opened g c follow candidates answers = first_selected-followed follow candidates answers
