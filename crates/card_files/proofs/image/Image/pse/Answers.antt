use Rattle.std.proofs.Common.{ap}
use Rattle.card_files.specs.Views.{ImageData}
use Rattle.card_files.proofs.image.Image.pse.Goals as goal

pub returns-clause-directory : goal.returns-clause-directory
returns-clause-directory c = ap (λ (image : ImageData). image.directory) c.self.view_is

pub returns-clause-file : goal.returns-clause-file
returns-clause-file c = c.self.invariant.directory

pub returns-clause-sight : goal.returns-clause-sight
returns-clause-sight c = rw (← c.self.view_is) c.self.invariant.sight
