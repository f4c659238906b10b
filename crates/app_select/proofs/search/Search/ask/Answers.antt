use Rattle.std.proofs.Common.{sym, ◌∙◌}
use Rattle.app_select.specs.Leading.{rest_with}
use Rattle.app_select.specs.SeenState.{seen_asked}
use Rattle.emv_dict.proofs.Steps.{leads_now}
use Rattle.app_select.proofs.search.Search.ask.Goals as goal

pub returns : goal.returns
returns c = record {
  wants = λ candidates whole answers leads.
      leads_now whole (rest_with (seen_asked c.self.inside.asked) candidates) answers (rw (sym c.self.view_is) at leads) ∙ c.write_asked.ensures candidates;
}
