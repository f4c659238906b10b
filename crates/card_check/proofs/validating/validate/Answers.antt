use Rattle.std.proofs.Common.{◌∙◌, sym}
use Rattle.card_check.proofs.Readiness.{well_some, well_none, reason_some, reason_none, well_from}
use Rattle.card_check.specs.Judged.{judged_outset}
use Rattle.card_check.proofs.validating.validate.Goals as goal

pub returns-in-Some-clause-well_formed : goal.returns-in-Some-clause-well_formed
returns-in-Some-clause-well_formed c =
    well_some c.args.image.now (judged_outset c.args.settings.now c.args.purchase.now) c.args.state.now c.in-Some.fault (sym c.first_fault.ensures.fault ∙ c.in-Some.is)

pub returns-in-Some-clause-reason : goal.returns-in-Some-clause-reason
returns-in-Some-clause-reason c =
    reason_some c.args.image.now (judged_outset c.args.settings.now c.args.purchase.now) c.args.state.now c.in-Some.fault (sym c.first_fault.ensures.fault ∙ c.in-Some.is)

pub returns-in-None-clause-well_formed : goal.returns-in-None-clause-well_formed
returns-in-None-clause-well_formed c =
    well_none c.args.image.now (judged_outset c.args.settings.now c.args.purchase.now) c.args.state.now (sym c.first_fault.ensures.fault ∙ c.in-None.is)

pub returns-in-None-clause-reason : goal.returns-in-None-clause-reason
returns-in-None-clause-reason c =
    reason_none c.args.image.now (judged_outset c.args.settings.now c.args.purchase.now) c.args.state.now (sym c.first_fault.ensures.fault ∙ c.in-None.is)

pub returns-in-None-clause-decided : goal.returns-in-None-clause-decided
returns-in-None-clause-decided c ok settings found made now replies ending told over =
    c.purchases_are_decided.ensures c.args.image.now (judged_outset c.args.settings.now c.args.purchase.now) found now replies ending c.first_fault.ensures.image settings
    (well_from c.args.image.now (judged_outset c.args.settings.now c.args.purchase.now) found c.args.state.now made (sym c.first_fault.ensures.fault ∙ c.in-None.is))
    told over
