use Rattle.std.proofs.Common.{false}
use Rattle.app_select.specs.Said.{Blocked, Named, Nothing}
use Rattle.app_select.specs.SeenCandidate.{seen_candidate}
use Rattle.app_select.specs.SeenSaid.{seen_fci}
use Rattle.app_select.proofs.Turns.{final_told}
use Rattle.app_select.proofs.search.turns.opened.Goals as goal

pub returns-in-Blocked-clause-leads : goal.returns-in-Blocked-clause-leads
returns-in-Blocked-clause-leads c whole answers leads =
    c.choose.ensures.leads whole _ (final_told whole answers (seen_candidate c.args.candidate) c.args.candidates.now c.args.reply.now Blocked c.in-Blocked.ensures.exact leads)

pub returns-else-valid-clause-leads : goal.returns-else-valid-clause-leads
returns-else-valid-clause-leads c whole answers leads =
    c.choose-else-valid.ensures.leads whole _
    (final_told whole answers (seen_candidate c.args.candidate) c.args.candidates.now c.args.reply.now (Named false (seen_fci c.in-Named.fci)) (rw c.if-valid.false at c.in-Named.ensures.exact) leads)

pub returns-in-Nothing-clause-leads : goal.returns-in-Nothing-clause-leads
returns-in-Nothing-clause-leads c whole answers leads =
    c.choose-in-Nothing.ensures.leads whole _ (final_told whole answers (seen_candidate c.args.candidate) c.args.candidates.now c.args.reply.now Nothing c.in-Nothing.ensures.exact leads)
