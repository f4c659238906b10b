use Rattle.std.proofs.Common.{◌∙◌}
use Rattle.issuer_host.proofs.Tables.{popped}
use Rattle.issuer_host.proofs.keeping.Keeping.forget_last.Goals as goal

pub returns : goal.returns
returns c = λ front last same.
    popped c.self.inside.table.entries c.pop-last.new.self.entries c.pop-last.result front last c.pop-last.ensures.entries c.pop-last.ensures.found (c.self.view_is ∙ same)
