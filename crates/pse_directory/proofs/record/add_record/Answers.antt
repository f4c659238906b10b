use Rattle.std.proofs.Common.{sym}
use Rattle.pse_directory.proofs.Entering.{held_by}
use Rattle.pse_directory.proofs.record.add_record.Goals as goal

pub returns-in-Some-add_entries-clause-told : goal.returns-in-Some-add_entries-clause-told
returns-in-Some-add_entries-clause-told c = rw (sym c.in-Some.ensures.exact) (held_by _ _ _ _ c.in-Some-add_entries.ensures.some)
