use Rattle.std.proofs.Common.{refl, sym, ap}
use Rattle.std.specs.Prelude.{Some}
use Rattle.card_files.proofs.ControlItems.{is_entry}
use Rattle.card_files.proofs.SizeLemmas.{label_size}
use Rattle.card_files.proofs.image.Image.directory_record.Goals as goal

pub write_entry-requires : goal.write_entry-requires
write_entry-requires c = label_size c.in-Some.app.now.label c.in-Some.ensures.rules.label

pub returns-in-Some-clause-there : goal.returns-in-Some-clause-there
returns-in-Some-clause-there c = rw (← c.in-Some.ensures.found) refl

pub returns-in-Some-clause-bytes : goal.returns-in-Some-clause-bytes
returns-in-Some-clause-bytes c = λ _. rw (← c.in-Some.ensures.found) (ap Some (sym c.write_entry.ensures))

pub returns-in-Some-clause-read : goal.returns-in-Some-clause-read
returns-in-Some-clause-read c = λ _. rw (← c.in-Some.ensures.found) (is_entry c.in-Some.app.now _ c.write_entry.ensures)
