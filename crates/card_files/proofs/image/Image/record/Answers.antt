use Rattle.std.proofs.Common.{◌∙◌, ap}
use Rattle.card_files.specs.Views.{AppData}
use Rattle.card_files.proofs.Records.{held, only}
use Rattle.card_files.proofs.image.Image.record.Goals as goal

pub returns-in-Some-clause-held : goal.returns-in-Some-clause-held
returns-in-Some-clause-held c =
    held (λ bytes. bytes.now) c.record_in.result c.args.self.now.apps c.in-Some.image.now c.args.app c.args.sfi c.args.number c.in-Some.ensures.found
    (rw (c.deref.ensures.value, ap (λ (a : AppData). a.records) c.image.view_is) at c.record_in.ensures.exact)

pub returns-in-Some-clause-only : goal.returns-in-Some-clause-only
returns-in-Some-clause-only c = λ bytes there.
    (rw (c.deref.ensures.value, ap (λ (a : AppData). a.records) c.image.view_is) at c.record_in.ensures.exact)
    ∙ only c.args.self.now.apps c.in-Some.image.now c.args.app c.args.sfi c.args.number bytes c.in-Some.ensures.found c.in-Some.ensures.rules.records there
