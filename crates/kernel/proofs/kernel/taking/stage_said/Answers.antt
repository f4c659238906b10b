use Rattle.std.proofs.Common.{◌≡◌, ◌∷◌}
use Rattle.kernel.specs.Reply.{CardSaid}
use Rattle.kernel.specs.declared.stage.Opening.TheVariants as openings
use Rattle.kernel.specs.declared.stage.Stage.TheVariants as stages
use Rattle.kernel.proofs.kernel.taking.stage_said.Goals as goal

pub returns-in-Ask-clause-stands : goal.returns-in-Ask-clause-stands
returns-in-Ask-clause-stands c = λ before rest goes.
    let is : c.args.stage.now ≡ stages.Opening (openings.Read c.in-Opening-Read.at) = (let one = c.in-Opening-Read.is in let two = c.in-Opening-Read.field-0-is in cc) in
    c.in-Ask.ensures.stands before c.args.log.now rest (rw is at goes)

pub returns-in-Done-clause-stands : goal.returns-in-Done-clause-stands
returns-in-Done-clause-stands c = λ before rest goes.
    let is : c.args.stage.now ≡ stages.Opening (openings.Read c.in-Opening-Read.at) = (let one = c.in-Opening-Read.is in let two = c.in-Opening-Read.field-0-is in cc) in
    c.has_read-trading.ensures.stands (λ later. rest (CardSaid c.args.reply.now c.args.log.now ∷ later)) (c.in-Done.ensures.stands before c.args.log.now rest (rw is at goes))

pub returns-in-Ended-clause-stands : goal.returns-in-Ended-clause-stands
returns-in-Ended-clause-stands c = λ before rest goes.
    let is : c.args.stage.now ≡ stages.Opening (openings.Read c.in-Opening-Read.at) = (let one = c.in-Opening-Read.is in let two = c.in-Opening-Read.field-0-is in cc) in
    c.in-Ended.ensures.stands before c.args.log.now rest (rw is at goes)

pub returns-in-Opening-clause-stands : goal.returns-in-Opening-clause-stands
returns-in-Opening-clause-stands c = λ before rest goes. c.opening_said.ensures.stands before c.args.log.now rest (rw c.in-Opening.is at goes)
