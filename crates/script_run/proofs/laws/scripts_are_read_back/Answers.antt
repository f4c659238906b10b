use Rattle.script_run.proofs.Templates.{named_read, unnamed_read}
use Rattle.script_run.proofs.laws.scripts_are_read_back.Goals as goal

pub returns-clause-named : goal.returns-clause-named
returns-clause-named c = named_read

pub returns-clause-unnamed : goal.returns-clause-unnamed
returns-clause-unnamed c = unnamed_read
