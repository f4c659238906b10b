use Rattle.std.proofs.Common.{◌≡◌, ℕ, List, [], ◌∷◌, ◌++◌, Some, Option, sym, ap, ◌∙◌, subst}
use Rattle.std.specs.Prelude.{option_map}
use Rattle.host_link.specs.Delivery.{heard}
use Rattle.host_link.specs.Dialect.{call_in, reply_in}
use Rattle.issuer_host.specs.History.{HostStands, host_reply}
use Rattle.kernel.specs.Dialogue.{dialogue}
use Rattle.kernel.specs.Kernel.{told_bytes}
use Rattle.kernel.specs.Reply.{Reply, from_host}
use Rattle.report_text.specs.declared.line.Line.{Line}
use Rattle.txn_replay.specs.Lines.{wire_lines, host_lines}
use Rattle.txn_replay.specs.Part.{Part, ended_if_over, sending}
use Rattle.txn_replay.specs.Payment.{outset_for}
use Rattle.txn_replay.specs.Standing.{LaneStands, PartRuns, ExchangeHasLed, IsEndCounted, seen_payment}
use Rattle.txn_replay.specs.World.{with_sent}
use Rattle.txn_replay.proofs.ExchangeLaws.HostExchange.{stands_sent, heard_on, settled_messages}
use Rattle.txn_replay.proofs.exchange.ask_host.Goals as goal

pub returns-clause-led : goal.returns-clause-led
returns-clause-led g c = λ replies part runs stood.
    let p = seen_payment c.args.common.now.host.keys c.args.common.now.host.accounts c.args.at.now in
    let message : List ℕ = told_bytes (dialogue (outset_for p) replies) in
    let reply : Option (List ℕ) = heard p.planned.link (host_reply p.issuer p.accounts part.messages message) in
    let back = c.in_ok-comes.ensures.heard p replies part.messages runs.lane_is.running stood in
    let is : option_map (λ said. said.now) c.said-2.result ≡ reply = c.said-2.ensures.reply ∙ back in
    let told =
    c.hear.ensures.told p replies (with_sent message part.lane) (stands_sent p c.args.lane.now part.lane message (Some replies) (c.send.ensures.read p replies runs.lane_is.running) runs.lane_is) in
    let stands : LaneStands c.hear.new.lane p (record (with_sent message part.lane) { running = Some (replies ++ from_host reply ∷ []) }) =
    subst (λ (o : Option (List ℕ)). LaneStands c.hear.new.lane p (record (with_sent message part.lane) { running = Some (replies ++ from_host o ∷ []) })) is told in
    let wired : option_map (λ said. said.now) c.said.result ≡ option_map (reply_in p.iso message) reply =
    c.said.ensures.reply ∙ c.in_ok-comes.ensures.shown p replies runs.lane_is.running ∙ ap (option_map (reply_in p.iso message)) back in
    let lines : c.tell_host.new.lines.items ≡ host_lines p.iso p.lane message reply =
    c.tell_host.ensures.lines
    ∙ ap (λ (call : List ℕ). wire_lines p.lane call (option_map (λ said. said.now) c.said.result))
    (c.as_slice.ensures.value ∙ c.send.ensures.call p replies runs.lane_is.running)
    ∙ ap (λ (o : Option (List ℕ)). wire_lines p.lane (call_in p.iso message) o) wired in
    let more : List Reply = replies ++ from_host reply ∷ [] in
    let after : Part = sending p message part in
    let on : PartRuns p c.hear.new.lane c.args.lane_store.now c.args.run_card.now more after =
    heard_on p c.args.lane.now c.hear.new.lane c.args.lane_store.now c.args.run_card.now replies more part message runs stands in
    let led = c.end_if_over.ensures.led p.issuer p.accounts more after on in
    record {
      moved = subst (λ (xs : List Line). ExchangeHasLed p c.end_if_over.new.lane c.end_if_over.new.lane_store c.end_if_over.new.run_card c.end_if_over.new.lines.items (ended_if_over p more after xs)) lines
          led.moved;
      counted = subst (λ (xs : List Line). IsEndCounted c.args.common.now.tally c.end_if_over.new.tally part.lane.ended (ended_if_over p more after xs).part.lane.ended) lines
          led.counted;
    }

pub returns-clause-messages : goal.returns-clause-messages
returns-clause-messages g c = λ replies part runs stood.
    let p = seen_payment c.args.common.now.host.keys c.args.common.now.host.accounts c.args.at.now in
    let message : List ℕ = told_bytes (dialogue (outset_for p) replies) in
    let reply : Option (List ℕ) = heard p.planned.link (host_reply p.issuer p.accounts part.messages message) in
    let after : Part = sending p message part in
    subst (λ (ms : List (List ℕ)). HostStands c.send.new.host ms)
    (sym (settled_messages p (replies ++ from_host reply ∷ []) after (host_lines p.iso p.lane message reply)))
    (c.in_ok-comes.ensures.stands p replies part.messages runs.lane_is.running stood)
