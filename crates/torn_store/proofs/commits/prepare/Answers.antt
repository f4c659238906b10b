use Rattle.torn_store.proofs.Opening.{up_on}
use Rattle.torn_store.proofs.commits.prepare.Goals as goal

pub write_first-requires-clause-on : goal.write_first-requires-clause-on
write_first-requires-clause-on g c = up_on (g.P.Pages.memory c.args.pages.now) (g.P.Pages.memory c.power_up.new.self) c.power_up.ensures
