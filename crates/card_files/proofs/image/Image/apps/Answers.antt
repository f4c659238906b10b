use Rattle.std.proofs.Common.{length, ap, ◌∙◌}
use Rattle.card_files.specs.Views.{ImageData}
use Rattle.card_files.proofs.Keeping.{has_no_fault}
use Rattle.card_files.proofs.image.Image.apps.Goals as goal

pub returns-clause-apps : goal.returns-clause-apps
returns-clause-apps c = c.deref.ensures.value ∙ ap (λ (image : ImageData). image.apps) c.self.view_is

pub returns-clause-faultless : goal.returns-clause-faultless
returns-clause-faultless c =
    rw (← c.self.view_is) (has_no_fault c.self.inside.apps.items c.self.inside.directory c.self.invariant.apps c.self.invariant.sight)

pub returns-clause-image : goal.returns-clause-image
returns-clause-image c = rw (← c.self.view_is) c.self.invariant

pub returns-clause-count : goal.returns-clause-count
returns-clause-count c = ap length (c.deref.ensures.value ∙ ap (λ (image : ImageData). image.apps) c.self.view_is)

pub returns-clause-some : goal.returns-clause-some
returns-clause-some c = rw c.deref.ensures.value c.self.invariant.apps.some

pub returns-clause-few : goal.returns-clause-few
returns-clause-few c = rw c.deref.ensures.value c.self.invariant.apps.few

pub returns-clause-rules : goal.returns-clause-rules
returns-clause-rules c = rw c.deref.ensures.value c.self.invariant.apps.rules
