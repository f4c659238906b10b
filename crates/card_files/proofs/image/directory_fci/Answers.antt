use Rattle.card_files.proofs.ControlItems.{is_directory_fci}
use Rattle.card_files.proofs.image.directory_fci.Goals as goal

pub returns-clause-read : goal.returns-clause-read
returns-clause-read c = is_directory_fci c.args.sfi _ c.write_directory_fci.ensures
