use Rattle.emv_top.proofs.Entries.{lines_are_entries}
use Rattle.emv_top.proofs.laws.lines_are_entries.Goals as goal

pub returns : goal.returns
returns c = lines_are_entries
