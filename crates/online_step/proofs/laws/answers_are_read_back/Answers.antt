use Rattle.online_step.proofs.Written.{read_one, read_two}
use Rattle.online_step.proofs.laws.answers_are_read_back.Goals as goal

pub returns-clause-one : goal.returns-clause-one
returns-clause-one c = read_one

pub returns-clause-two : goal.returns-clause-two
returns-clause-two c = read_two
