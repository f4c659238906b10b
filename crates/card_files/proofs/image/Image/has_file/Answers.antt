use Rattle.std.proofs.Common.{ap}
use Rattle.card_files.specs.Views.{AppData}
use Rattle.card_files.proofs.Records.{any_record}
use Rattle.card_files.proofs.image.Image.has_file.Goals as goal

pub returns-in-Some-clause-some : goal.returns-in-Some-clause-some
returns-in-Some-clause-some c =
    any_record c.args.self.now.apps c.in-Some.image.now c.args.app c.args.sfi c.is_file.result c.in-Some.ensures.found
    (rw (c.deref.ensures.value, ap (λ (a : AppData). a.records) c.image.view_is) at c.is_file.ensures)
