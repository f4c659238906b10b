use Rattle.std.proofs.Common.{sym}
use Rattle.app_select.proofs.selecting.Selected.refuse.Goals as goal

pub returns : goal.returns
returns c = record { leads = λ whole answers leads. c.with_candidates.ensures.leads whole answers (c.refuse-next.ensures.leads whole answers (rw (sym c.self.view_is) at leads)) }
