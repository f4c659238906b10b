use Rattle.std.proofs.Common.{Bool, true, false, sym, ◌∙◌, subst}
use Rattle.txn_replay.specs.Prepared.{PreparedBy}
use Rattle.txn_replay.specs.Standing.{seen_payment}
use Rattle.txn_replay.specs.Storing.{Before, before_by}
use Rattle.txn_replay.proofs.StoreLaws.StoreFirst.{before_roomy, few_in, has_room, left_one}
use Rattle.txn_replay.proofs.storing.prepare.Goals as goal

pub returns-then-not-at-clause-prepared : goal.returns-then-not-at-clause-prepared
returns-then-not-at-clause-prepared g c = λ part rests stood.
    let p = seen_payment c.args.host.now.keys c.args.host.now.accounts c.args.at.now in (
      false,
      subst (λ (b : Bool). PreparedBy p c.args.lane.now c.args.lane_store.now c.args.host.now c.args.lines.now.items true (before_by p part false b)) (sym c.if-not-at.true)
          (record { keeps = rests.keeps; lane_store_is = rests.lane_store_is; messages = stood }),
    )

pub open_store-requires-clause-stands : goal.open_store-requires-clause-stands
open_store-requires-clause-stands g c = (c.args.host.now.keys, c.args.host.now.accounts, c.requires.stands.0, c.requires.stands.1)

pub returns-then-not-is_on-clause-prepared : goal.returns-then-not-is_on-clause-prepared
returns-then-not-is_on-clause-prepared g c = λ part rests stood.
    c.open_store.ensures.opened c.args.host.now.keys c.args.host.now.accounts part c.args.host.now rests stood

pub returns-then-not-is_full-clause-prepared : goal.returns-then-not-is_full-clause-prepared
returns-then-not-is_full-clause-prepared g c = λ part rests stood.
    let p = seen_payment c.args.host.now.keys c.args.host.now.accounts c.args.at.now in
    let on = sym c.is_on.ensures ∙ c.if-not-is_on.false in
    let roomy = sym c.is_full.ensures.exact ∙ c.if-not-is_full.true in
    let way = before_roomy p c.args.lane.now c.args.lane_store.now part rests c.if-not-at.false on false roomy in (
      false,
      subst (λ (b : Before). PreparedBy p c.args.lane.now c.args.lane_store.now c.args.host.now c.args.lines.now.items true b) (sym way)
          (record { keeps = rests.keeps; lane_store_is = rests.lane_store_is; messages = stood }),
    )

pub returns-then-not-is_full-clause-room : goal.returns-then-not-is_full-clause-room
returns-then-not-is_full-clause-room g c = λ begins durable.
    let p = seen_payment c.args.host.now.keys c.args.host.now.accounts c.args.at.now in
    let on = sym c.is_on.ensures ∙ c.if-not-is_on.false in
    let roomy = sym c.is_full.ensures.exact ∙ c.if-not-is_full.true in
    (on, has_room _ (few_in p c.args.lane.now c.args.lane_store.now c.requires.stands.0 c.requires.stands.1 c.if-not-at.false on) roomy)

pub deliver_first-requires-clause-full : goal.deliver_first-requires-clause-full
deliver_first-requires-clause-full g c =
    left_one c.args.lane_store.now (sym c.is_on.ensures ∙ c.if-not-is_on.false) (sym c.is_full.ensures.exact ∙ c.if-not-is_full.false)

pub returns-clause-prepared : goal.returns-clause-prepared
returns-clause-prepared g c = λ part rests stood. (false, c.in_ok-deliver_first.ensures.delivered part false rests stood)
