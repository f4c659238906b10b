use Rattle.read_records.proofs.Stages.{options_told, begun}
use Rattle.read_records.proofs.initiating.Initiating.take_into.Goals as goal

pub returns-in-Refused-clause-leads : goal.returns-in-Refused-clause-leads
returns-in-Refused-clause-leads c whole answers leads = options_told whole answers _ _ _ c.in-Refused.ensures.exact leads

pub returns-in-Granted-clause-leads : goal.returns-in-Granted-clause-leads
returns-in-Granted-clause-leads c whole answers leads =
    begun whole _ _ _ _ _ c.put_options.ensures.entries c.new.ensures (options_told whole answers _ _ _ c.in-Granted.ensures.exact leads)

pub returns-in-Faulty-clause-leads : goal.returns-in-Faulty-clause-leads
returns-in-Faulty-clause-leads c whole answers leads = options_told whole answers _ _ _ c.in-Faulty.ensures.exact leads
