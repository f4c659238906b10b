use Rattle.std.proofs.Common.{ap}
use Rattle.txn_replay.specs.Steps.{part_of}
use Rattle.txn_replay.specs.declared.exchange.Common.{Common}
use Rattle.txn_replay.proofs.TurnLaws.TurnAtHand.{stands_for, none_left, card_held, few_ended, own_fits, part_at, whole_after, unmoved, nothing_else, not_idle, moved_on}
use Rattle.txn_replay.proofs.TurnLaws.TurnIdle.{on_err}
use Rattle.txn_replay.proofs.world.World.turn.Goals as goal

pub returns-in_default-clause-ok : goal.returns-in_default-clause-ok
returns-in_default-clause-ok g c = λ w stands.
    (none_left _ _ c.self.view_is c.self.invariant.0 c.args.lane c.requires.lane c.index.result.now c.index.ensures
    c.in_default.ensures.payment w stands c.clear.new.self.items c.clear.ensures).0

pub returns-in_default-clause-idle : goal.returns-in_default-clause-idle
returns-in_default-clause-idle g c = λ one w stands.
    (none_left _ _ c.self.view_is c.self.invariant.0 c.args.lane c.requires.lane c.index.result.now c.index.ensures
    c.in_default.ensures.payment w stands c.clear.new.self.items c.clear.ensures).1

pub returns-then-is_held-clause-ok : goal.returns-then-is_held-clause-ok
returns-then-is_held-clause-ok g c = λ w stands.
    (card_held _ _ c.self.view_is c.self.invariant.0 c.args.lane c.requires.lane c.index.result.now c.index.ensures
    c.in-Some.at c.in-Some.ensures.payment c.in-Some.ensures.card
    c.index-2.result.now c.index-2.ensures c.index-3.result.now c.index-3.ensures
    c.is_held.result c.is_held.ensures.exact c.if-is_held.true c.is_held.ensures.off w stands c.clear.new.self.items c.clear.ensures).0

pub returns-then-is_held-clause-idle : goal.returns-then-is_held-clause-idle
returns-then-is_held-clause-idle g c = λ one w stands.
    (card_held _ _ c.self.view_is c.self.invariant.0 c.args.lane c.requires.lane c.index.result.now c.index.ensures
    c.in-Some.at c.in-Some.ensures.payment c.in-Some.ensures.card
    c.index-2.result.now c.index-2.ensures c.index-3.result.now c.index-3.ensures
    c.is_held.result c.is_held.ensures.exact c.if-is_held.true c.is_held.ensures.off w stands c.clear.new.self.items c.clear.ensures).1

pub exchange-requires-clause-few : goal.exchange-requires-clause-few
exchange-requires-clause-few g c =
    few_ended _ _ c.self.view_is c.self.invariant.0 c.args.lane c.requires.lane c.index.result.now c.index.ensures
    c.in-Some.at c.in-Some.ensures.payment c.in-Some.ensures.card
    c.index_mut.result.now c.index_mut.ensures.value c.index_mut-3.result.now c.index_mut-3.ensures.value

pub exchange-requires-clause-fits : goal.exchange-requires-clause-fits
exchange-requires-clause-fits g c =
    own_fits _ _ c.self.view_is c.self.invariant.0 c.args.lane c.requires.lane c.index.result.now c.index.ensures
    c.in-Some.at c.in-Some.ensures.payment c.in-Some.ensures.card
    c.index_mut.result.now c.index_mut.ensures.value c.index_mut-3.result.now c.index_mut-3.ensures.value

pub exchange-requires-clause-stands : goal.exchange-requires-clause-stands
exchange-requires-clause-stands g c =
    let w = c.self.invariant.0.standing.0 in
    let stands = c.self.invariant.0.standing.1 in (
      part_of w c.args.lane c.in-Some.at.planned.now.card,
      part_at _ _ c.self.view_is c.self.invariant.0 c.args.lane c.requires.lane c.index.result.now c.index.ensures
          c.in-Some.at c.in-Some.ensures.payment c.in-Some.ensures.card
          c.index_mut.result.now c.index_mut.ensures.value c.index_mut-3.result.now c.index_mut-3.ensures.value
          c.index_mut-2.result.now c.index_mut-2.ensures.value w stands,
      stands.messages,
    )

pub invariant_of-self : goal.invariant_of-self
invariant_of-self g c =
    let w = c.self.invariant.0.standing.0 in
    let stands =
    unmoved _ _ c.self.view_is c.self.invariant.0 c.args.lane c.requires.lane c.index.result.now c.index.ensures
    c.in-Some.at c.in-Some.ensures.payment c.in-Some.ensures.card
    c.index_mut.result.now c.index_mut.ensures.value c.index_mut-3.result.now c.index_mut-3.ensures.value
    c.index_mut-2.result.now c.index_mut-2.ensures.value
    c.exchange.new.lane c.exchange.new.lane_store c.exchange.new.run_card c.exchange.new.common.host c.exchange.new.common.tally
    c.in_err-exchange.ensures.err.0 c.in_err-exchange.ensures.err.1 c.in_err-exchange.ensures.err.2 (ap (λ (x : Common). x.host) c.in_err-exchange.ensures.err.3) (ap (λ (x : Common). x.tally) c.in_err-exchange.ensures.err.3)
    w c.self.invariant.0.standing.1 in (
      whole_after _ _ c.self.view_is c.self.invariant.0 c.args.lane c.requires.lane c.index.result.now c.index.ensures
          c.in-Some.at c.in-Some.ensures.payment c.in-Some.ensures.card
          c.index_mut.result.now c.index_mut.ensures.value c.index_mut-3.result.now c.index_mut-3.ensures.value
          c.index_mut-2.result.now c.index_mut-2.ensures.value
          c.exchange.new.lane c.exchange.new.lane_store c.exchange.new.run_card c.exchange.new.common.host c.exchange.new.common.tally
          c.exchange.ensures.fits c.exchange.ensures.issuer.keys c.exchange.ensures.issuer.accounts (w, stands),
      c.self.invariant.1,
    )

pub returns-in_err-exchange-clause-err : goal.returns-in_err-exchange-clause-err
returns-in_err-exchange-clause-err g c =
    on_err c.from_residual.result (λ w stands.
    unmoved _ _ c.self.view_is c.self.invariant.0 c.args.lane c.requires.lane c.index.result.now c.index.ensures
    c.in-Some.at c.in-Some.ensures.payment c.in-Some.ensures.card
    c.index_mut.result.now c.index_mut.ensures.value c.index_mut-3.result.now c.index_mut-3.ensures.value
    c.index_mut-2.result.now c.index_mut-2.ensures.value
    c.exchange.new.lane c.exchange.new.lane_store c.exchange.new.run_card c.exchange.new.common.host c.exchange.new.common.tally
    c.in_err-exchange.ensures.err.0 c.in_err-exchange.ensures.err.1 c.in_err-exchange.ensures.err.2 (ap (λ (x : Common). x.host) c.in_err-exchange.ensures.err.3) (ap (λ (x : Common). x.tally) c.in_err-exchange.ensures.err.3)
    w (stands_for _ _ c.self.view_is c.self.invariant.0 c.args.lane c.requires.lane c.index.result.now c.index.ensures w stands))

pub returns-in_err-exchange-clause-unmoved : goal.returns-in_err-exchange-clause-unmoved
returns-in_err-exchange-clause-unmoved g c =
    on_err c.from_residual.result ((
      nothing_else _ _ c.self.view_is c.self.invariant.0 c.args.lane c.requires.lane c.index.result.now c.index.ensures
          c.in-Some.at c.in-Some.ensures.payment c.in-Some.ensures.card
          c.index_mut.result.now c.index_mut.ensures.value c.index_mut-3.result.now c.index_mut-3.ensures.value
          c.index_mut-2.result.now c.index_mut-2.ensures.value
          c.exchange.new.lane c.exchange.new.lane_store c.exchange.new.run_card c.exchange.new.common.host c.exchange.new.common.tally
          c.in_err-exchange.ensures.err.0 c.in_err-exchange.ensures.err.1 c.in_err-exchange.ensures.err.2 (ap (λ (x : Common). x.host) c.in_err-exchange.ensures.err.3) (ap (λ (x : Common). x.tally) c.in_err-exchange.ensures.err.3),
      c.in_err-exchange.ensures.err.4 c.clear.ensures,
    ))

pub invariant_of-self-2 : goal.invariant_of-self-2
invariant_of-self-2 g c =
    let w = c.self.invariant.0.standing.0 in
    let stands = c.self.invariant.0.standing.1 in
    let led = c.in_ok-exchange.ensures.led (part_of w c.args.lane c.in-Some.at.planned.now.card)
    (part_at _ _ c.self.view_is c.self.invariant.0 c.args.lane c.requires.lane c.index.result.now c.index.ensures
    c.in-Some.at c.in-Some.ensures.payment c.in-Some.ensures.card
    c.index_mut.result.now c.index_mut.ensures.value c.index_mut-3.result.now c.index_mut-3.ensures.value
    c.index_mut-2.result.now c.index_mut-2.ensures.value w stands) stands.messages in
    let goes =
    moved_on _ _ c.self.view_is c.self.invariant.0 c.args.lane c.requires.lane c.index.result.now c.index.ensures
    c.in-Some.at c.in-Some.ensures.payment c.in-Some.ensures.card
    c.index_mut.result.now c.index_mut.ensures.value c.index_mut-3.result.now c.index_mut-3.ensures.value
    c.index_mut-2.result.now c.index_mut-2.ensures.value
    c.exchange.new.lane c.exchange.new.lane_store c.exchange.new.run_card c.exchange.new.common.host c.exchange.new.common.tally
    c.index-2.result.now c.index-2.ensures c.index-3.result.now c.index-3.ensures
    c.is_held.result c.is_held.ensures.exact c.if-is_held.false
    c.exchange.new.lines.items w stands led.0 led.1 led.2 led.3 in (
      whole_after _ _ c.self.view_is c.self.invariant.0 c.args.lane c.requires.lane c.index.result.now c.index.ensures
          c.in-Some.at c.in-Some.ensures.payment c.in-Some.ensures.card
          c.index_mut.result.now c.index_mut.ensures.value c.index_mut-3.result.now c.index_mut-3.ensures.value
          c.index_mut-2.result.now c.index_mut-2.ensures.value
          c.exchange.new.lane c.exchange.new.lane_store c.exchange.new.run_card c.exchange.new.common.host c.exchange.new.common.tally
          c.exchange.ensures.fits c.exchange.ensures.issuer.keys c.exchange.ensures.issuer.accounts (goes.after, goes.stands),
      c.self.invariant.1,
    )

pub returns-clause-ok : goal.returns-clause-ok
returns-clause-ok g c = λ w stands.
    let seen = stands_for _ _ c.self.view_is c.self.invariant.0 c.args.lane c.requires.lane c.index.result.now c.index.ensures w stands in
    let led = c.in_ok-exchange.ensures.led (part_of w c.args.lane c.in-Some.at.planned.now.card)
    (part_at _ _ c.self.view_is c.self.invariant.0 c.args.lane c.requires.lane c.index.result.now c.index.ensures
    c.in-Some.at c.in-Some.ensures.payment c.in-Some.ensures.card
    c.index_mut.result.now c.index_mut.ensures.value c.index_mut-3.result.now c.index_mut-3.ensures.value
    c.index_mut-2.result.now c.index_mut-2.ensures.value w seen) seen.messages in
    moved_on _ _ c.self.view_is c.self.invariant.0 c.args.lane c.requires.lane c.index.result.now c.index.ensures
    c.in-Some.at c.in-Some.ensures.payment c.in-Some.ensures.card
    c.index_mut.result.now c.index_mut.ensures.value c.index_mut-3.result.now c.index_mut-3.ensures.value
    c.index_mut-2.result.now c.index_mut-2.ensures.value
    c.exchange.new.lane c.exchange.new.lane_store c.exchange.new.run_card c.exchange.new.common.host c.exchange.new.common.tally
    c.index-2.result.now c.index-2.ensures c.index-3.result.now c.index-3.ensures
    c.is_held.result c.is_held.ensures.exact c.if-is_held.false
    c.exchange.new.lines.items w seen led.0 led.1 led.2 led.3

pub returns-clause-busy : goal.returns-clause-busy
returns-clause-busy g c = λ one w stands.
    let seen = stands_for _ _ c.self.view_is c.self.invariant.0 c.args.lane c.requires.lane c.index.result.now c.index.ensures w stands in
    not_idle _ _ c.self.view_is c.self.invariant.0 c.args.lane c.requires.lane c.index.result.now c.index.ensures
    c.in-Some.at c.in-Some.ensures.payment c.in-Some.ensures.card
    c.index_mut.result.now c.index_mut.ensures.value c.index_mut-3.result.now c.index_mut-3.ensures.value
    c.index_mut-2.result.now c.index_mut-2.ensures.value
    c.index-2.result.now c.index-2.ensures c.index-3.result.now c.index-3.ensures
    c.is_held.result c.is_held.ensures.exact c.if-is_held.false w seen
