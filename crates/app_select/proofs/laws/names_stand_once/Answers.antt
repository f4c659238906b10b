use Rattle.app_select.proofs.Names.{firsts-distinct, firsts-there}
use Rattle.app_select.proofs.laws.names_stand_once.Goals as goal

pub returns-clause-distinct : goal.returns-clause-distinct
returns-clause-distinct c found = firsts-distinct found

pub returns-clause-there : goal.returns-clause-there
returns-clause-there c found name = firsts-there found name
