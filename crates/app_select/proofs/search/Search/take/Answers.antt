use Rattle.std.proofs.Common.{sym}
use Rattle.app_select.proofs.search.Search.take.Goals as goal

pub returns-in-Final-clause-leads : goal.returns-in-Final-clause-leads
returns-in-Final-clause-leads c whole answers leads = c.opened.ensures.leads whole answers (rw c.in-Final.is at (rw (sym c.self.view_is) at leads))
