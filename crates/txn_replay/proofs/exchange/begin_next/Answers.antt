use Rattle.std.proofs.Common.{ℕ, Bool, false, List, sym, ap, ◌∙◌, subst}
use Rattle.issuer_host.specs.History.{HostStands}
use Rattle.txn_replay.specs.Part.{Part, Moved}
use Rattle.txn_replay.specs.Prepared.{PreparedBy}
use Rattle.txn_replay.specs.Standing.{seen_payment}
use Rattle.txn_replay.specs.Storing.{before_purchase, lane_piece}
use Rattle.txn_replay.proofs.ExchangeLaws.NextPurchase.{resting, ends_here, begins_here, led_whole}
use Rattle.txn_replay.proofs.ExchangeLaws.TurnPieces.{piece_begins, begun_messages}
use Rattle.txn_replay.proofs.exchange.begin_next.Goals as goal

pub prepare-requires : goal.prepare-requires
prepare-requires g c =
    let p = seen_payment c.args.common.now.host.keys c.args.common.now.host.accounts c.args.at.now in
    let part = c.requires.stands.0 in
    record { stands = (part, resting p c.args.lane.now c.args.lane_store.now c.args.run_card.now part c.requires.stands.1, c.requires.stands.2) }

pub begin-requires-clause-off : goal.begin-requires-clause-off
begin-requires-clause-off g c =
    let rests = c.requires.stands.1.part_rests in
    (c.requires.stands.0.card.kept, c.requires.stands.0.card.pending, rests.off)

pub returns-clause-led : goal.returns-clause-led
returns-clause-led g c = λ part rests messages.
    let p = seen_payment c.args.common.now.host.keys c.args.common.now.host.accounts c.args.at.now in
    let prepared = c.in_ok-begins.ensures.prepared part (resting p c.args.lane.now c.args.lane_store.now c.args.run_card.now part rests) messages in
    let begins =
    begins_here p c.args.lane.now c.args.lane_store.now c.args.run_card.now part rests prepared.0 c.prepare.new.lane c.prepare.new.lane_store c.prepare.new.host c.prepare.new.lines.items
    (subst (λ (b : Bool). PreparedBy p c.prepare.new.lane c.prepare.new.lane_store c.prepare.new.host c.prepare.new.lines.items b (before_purchase p part prepared.0)) c.if-not-begins.false
    prepared.1) in
    let led = c.begin.ensures.led c.args.common.now.host.keys c.args.common.now.host.accounts begins.on begins.starts in
    let is = piece_begins p begins.on led.0 begins.starts.rests begins.starts.free in
    let leads = begins.leads led.0 in (
      leads.0,
      leads.1,
      led_whole p c.args.lane.now c.args.lane_store.now c.args.run_card.now part rests c.begin.new.lane c.begin.new.lane_store c.begin.new.run_card c.args.common.now.tally c.begin.new.tally
          c.begin.new.lines.items begins.on _ (lane_piece p part leads.0 leads.1) begins.same
          (leads.2 ∙ ap (λ (m : Moved). m.part) is) (leads.3 ∙ ap (λ (m : Moved). m.lines) is) led.1,
      subst (λ (ms : List (List ℕ)). HostStands c.prepare.new.host ms)
          (sym (ap (λ (x : Part). x.messages) leads.2 ∙ ap (λ (m : Moved). m.part.messages) is ∙ begun_messages p begins.on led.0 p.card.canned)) begins.messages,
    )

pub returns-then-not-begins-clause-led : goal.returns-then-not-begins-clause-led
returns-then-not-begins-clause-led g c = λ part rests messages.
    let p = seen_payment c.args.common.now.host.keys c.args.common.now.host.accounts c.args.at.now in
    let prepared = c.in_ok-begins.ensures.prepared part (resting p c.args.lane.now c.args.lane_store.now c.args.run_card.now part rests) messages in
    let ends =
    ends_here p c.args.lane.now c.args.lane_store.now c.args.run_card.now part rests prepared.0 c.prepare.new.lane c.prepare.new.lane_store c.prepare.new.host c.prepare.new.lines.items
    c.args.common.now.tally c.in_ok-begins.ensures.waits.rests
    (subst (λ (b : Bool). PreparedBy p c.prepare.new.lane c.prepare.new.lane_store c.prepare.new.host c.prepare.new.lines.items b (before_purchase p part prepared.0)) c.if-not-begins.true
    prepared.1) in
    (prepared.0, false, ends.0, ends.1)
