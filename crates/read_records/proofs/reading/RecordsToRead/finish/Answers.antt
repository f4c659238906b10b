use Rattle.std.proofs.Common.{sym, ◌∙◌}
use Rattle.object_lists.proofs.FormLemmas.{formed}
use Rattle.read_records.proofs.reading.RecordsToRead.finish.Goals as goal

pub returns-in-None-clause-forms : goal.returns-in-None-clause-forms
returns-in-None-clause-forms c _ = formed c.args.env.now c.requires (sym c.objects_fault.ensures ∙ c.in-None.is)
