use Rattle.std.proofs.Common.{ap}
use Rattle.card_files.specs.Views.{ImageData}
use Rattle.card_files.proofs.image.Image.version.Goals as goal

pub returns-clause-version : goal.returns-clause-version
returns-clause-version c = ap (λ (image : ImageData). image.version) c.self.view_is

pub returns-clause-known : goal.returns-clause-known
returns-clause-known c = c.self.invariant.version
