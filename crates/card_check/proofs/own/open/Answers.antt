use Rattle.std.proofs.Common.{ap, ◌∙◌, refl, []}
use Rattle.card_check.proofs.Opening.{is_begun, is_granted, is_read, is_ended}
use Rattle.card_check.proofs.own.open.Goals as goal
use Rattle.read_records.specs.Options.{profile_and_locator, options_said, initiated}

pub unreachable-requires : goal.unreachable-requires
unreachable-requires c = is_begun c.args.env.now _ c.in_default.ensures

pub unreachable-requires-in-Refused : goal.unreachable-requires-in-Refused
unreachable-requires-in-Refused c =
    is_granted c.in-Ok.asked c.deref.result.now (profile_and_locator c.args.app.now.aip c.args.app.now.afl) (ap options_said c.deref.ensures.0 ∙ c.write_opening.ensures)
    (c.in-Refused.ensures.leads (initiated c.in-Ok.asked) [] (λ later. refl))

pub returns-in-Read-clause-exact : goal.returns-in-Read-clause-exact
returns-in-Read-clause-exact c =
    is_read c.in-Ok.asked c.deref.result.now (profile_and_locator c.args.app.now.aip c.args.app.now.afl) (ap options_said c.deref.ensures.0 ∙ c.write_opening.ensures) _
    (c.in-Read.ensures.leads (initiated c.in-Ok.asked) [] (λ later. refl))

pub returns-in-Ended-clause-exact : goal.returns-in-Ended-clause-exact
returns-in-Ended-clause-exact c =
    is_ended c.in-Ok.asked c.deref.result.now (profile_and_locator c.args.app.now.aip c.args.app.now.afl) (ap options_said c.deref.ensures.0 ∙ c.write_opening.ensures) _
    (c.in-Ended.ensures.leads (initiated c.in-Ok.asked) [] (λ later. refl))
