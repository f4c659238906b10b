use Rattle.std.proofs.Common.{sym, ◌∙◌}
use Rattle.txn_replay.specs.Standing.{seen_payment}
use Rattle.txn_replay.proofs.ExchangeLaws.PurchaseGoesOn.{stays_led, over_led}
use Rattle.txn_replay.proofs.exchange.end_if_over.Goals as goal

pub returns-then-not-is_over-clause-led : goal.returns-then-not-is_over-clause-led
returns-then-not-is_over-clause-led g c = λ issuer accounts replies part runs.
    let p = seen_payment issuer accounts c.args.at.now in
    stays_led p c.args.lane.now c.args.lane_store.now c.args.run_card.now replies part c.args.lines.now.items runs c.args.tally.now
    (sym (c.is_over.ensures.told p replies runs.lane_is.running) ∙ c.if-not-is_over.true)

pub returns-clause-led : goal.returns-clause-led
returns-clause-led g c = λ issuer accounts replies part runs.
    let p = seen_payment issuer accounts c.args.at.now in
    let done = c.finish.ensures.stands issuer accounts replies part.lane runs.lane_is runs.lane_store_is in
    over_led p c.args.lane.now c.args.lane_store.now c.args.run_card.now replies part c.args.lines.now.items runs
    c.finish.new.lane c.finish.new.lane_store c.power_off.new.self c.finish.new.lines.items c.args.tally.now c.finish.new.tally done.0 done.1 done.2 done.3 done.4 done.5
    (c.power_off.ensures.off part.card p.planned.tear runs.on) (c.power_off.ensures.is p.card runs.is) (c.power_off.ensures.losses part.card.losses runs.losses)
