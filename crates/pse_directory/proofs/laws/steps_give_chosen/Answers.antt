use Rattle.pse_directory.proofs.Chains.{selecting_by-followed}
use Rattle.pse_directory.proofs.laws.steps_give_chosen.Goals as goal

pub returns : goal.returns
returns g c = λ follow pse rows confirm answers. selecting_by-followed follow rows confirm pse answers
