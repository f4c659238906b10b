use Rattle.std.proofs.Common.{◌≡◌, ℕ, ◌+◌, false, List, [], ◌∷◌, ◌++◌, slice_get, Some, sym, ap, ◌∙◌, subst, arith, rules}
use Rattle.report_text.specs.declared.line.Line.TheVariants.{EndLost}
use Rattle.txn_replay.specs.Prepared.{PreparedBy}
use Rattle.txn_replay.specs.Standing.{seen_payment}
use Rattle.txn_replay.specs.Storing.{Before, lane_copied}
use Rattle.txn_replay.proofs.StoreLaws.StoreOpen.{count_is}
use Rattle.txn_replay.specs.declared.lane.Lane.{Lane}
use Rattle.txn_replay.proofs.StoreLaws.StoreFirst.{full_is, seven_is, less_behind, lane_nearer, open_store, open_messages, before_delivers, copied_keeps, delivered_on, delivered_off}
use Rattle.txn_replay.proofs.storing.deliver_first.Goals as goal

pub copy_first-requires-clause-on : goal.copy_first-requires-clause-on
copy_first-requires-clause-on g c = (full_is c.args.lane_store.now c.requires.full).0

pub copy_first-requires-clause-some : goal.copy_first-requires-clause-some
copy_first-requires-clause-some g c =
    let p = seen_payment c.args.host.now.keys c.args.host.now.accounts c.args.at.now in
    let part = c.requires.stands.0 in
    let full = full_is c.args.lane_store.now c.requires.full in
    let on = open_store p c.args.lane.now c.args.lane_store.now part c.requires.stands.1 c.requires.durable full.0 in (
      part.lane.store,
      p.planned.terminal_tear,
      on,
      (let count = count_is c.args.lane_store.now part.lane.store p.planned.terminal_tear on in let seven = seven_is _ full.1 in omega (arith, count, seven)),
      open_messages p c.args.lane.now c.args.lane_store.now part c.requires.stands.1 c.requires.durable full.0,
    )

pub send_copies-requires-clause-stands : goal.send_copies-requires-clause-stands
send_copies-requires-clause-stands g c = (c.requires.stands.0.messages, c.requires.stands.2)

pub drop_first-requires-clause-on : goal.drop_first-requires-clause-on
drop_first-requires-clause-on g c = (full_is c.args.lane_store.now c.requires.full).0

pub drop_first-requires-clause-some : goal.drop_first-requires-clause-some
drop_first-requires-clause-some g c = let seven = seven_is _ (full_is c.args.lane_store.now c.requires.full).1 in omega (arith, seven)

pub returns-in-Ok-clause-delivered : goal.returns-in-Ok-clause-delivered
returns-in-Ok-clause-delivered g c = λ part one rests stood.
    let p = seen_payment c.args.host.now.keys c.args.host.now.accounts c.args.at.now in
    let lane = c.args.lane.now in
    let lane_store = c.args.lane_store.now in
    let full = c.requires.full in
    let on = open_store p lane lane_store part rests c.requires.durable (full_is lane_store full).0 in
    let message : List ℕ = c.as_slice.result.now in
    let first : slice_get part.lane.store.list 0 ≡ Some message =
    c.copy_first.ensures.first part.lane.store p.planned.terminal_tear on ∙ ap (λ (m : List ℕ). Some m) (sym c.as_slice.ensures.value) in
    let way = before_delivers p lane lane_store part rests c.requires.durable full message first one in
    subst (λ (b : Before). PreparedBy p lane c.drop_first.new.self c.send_copies.new.host c.send_copies.new.lines.items false b) (sym way)
    (delivered_on p lane lane_store part rests c.requires.durable full message first c.drop_first.new.self c.send_copies.new.host c.send_copies.new.lines.items
    (c.in-Ok.ensures.spared part.lane.store p.planned.terminal_tear on) (c.in-Ok.ensures.made part.lane.store p.planned.terminal_tear on) c.in-Ok.ensures.stays.losses
    (c.in_ok-send_copies.ensures.stands part.messages stood) (c.in_ok-send_copies.ensures.lines part.messages stood))

pub returns-in-Err-clause-delivered : goal.returns-in-Err-clause-delivered
returns-in-Err-clause-delivered g c = λ part one rests stood.
    let p = seen_payment c.args.host.now.keys c.args.host.now.accounts c.args.at.now in
    let lane = c.args.lane.now in
    let lane_store = c.args.lane_store.now in
    let full = c.requires.full in
    let on = open_store p lane lane_store part rests c.requires.durable (full_is lane_store full).0 in
    let message : List ℕ = c.as_slice.result.now in
    let first : slice_get part.lane.store.list 0 ≡ Some message =
    c.copy_first.ensures.first part.lane.store p.planned.terminal_tear on ∙ ap (λ (m : List ℕ). Some m) (sym c.as_slice.ensures.value) in
    let way = before_delivers p lane lane_store part rests c.requires.durable full message first one in
    let keeps = c.lose_purchase.ensures.keeps (lane_copied p message part.lane) (copied_keeps p lane lane_store part rests c.requires.durable full message first) in
    subst (λ (b : Before). PreparedBy p c.lose_purchase.new.lane c.drop_first.new.self c.send_copies.new.host c.lose_purchase.new.lines.items false b) (sym way)
    (delivered_off p lane lane_store part rests c.requires.durable full message first c.lose_purchase.new.lane c.drop_first.new.self c.send_copies.new.host
    c.lose_purchase.new.lines.items (c.in-Err.ensures.cut part.lane.store p.planned.terminal_tear on) (c.in-Err.ensures.lost part.lane.store p.planned.terminal_tear on)
    keeps c.in-Err.ensures.gone (c.in_ok-send_copies.ensures.stands part.messages stood)
    (c.lose_purchase.ensures.line
    ∙ (λ i. c.in_ok-send_copies.ensures.lines part.messages stood i
    ++ EndLost p.lane ((c.lose_purchase.ensures.ended ∙ ap (λ n. n + 1) rests.keeps.ended) i) ∷ [])))

-- a full store has room behind the drop
pub returns-in-Ok-clause-waits : goal.returns-in-Ok-clause-waits
returns-in-Ok-clause-waits g c =
    let p = seen_payment c.args.host.now.keys c.args.host.now.accounts c.args.at.now in
    let part = c.requires.stands.0 in
    let full = full_is c.args.lane_store.now c.requires.full in
    let on = open_store p c.args.lane.now c.args.lane_store.now part c.requires.stands.1 c.requires.durable full.0 in
    let less = less_behind c.drop_first.new.self part.lane.store p.planned.terminal_tear c.in-Ok.ensures.stays.on
    (c.in-Ok.ensures.spared part.lane.store p.planned.terminal_tear on) (c.in-Ok.ensures.made part.lane.store p.planned.terminal_tear on)
    _ (count_is c.args.lane_store.now part.lane.store p.planned.terminal_tear on) full.1 in
    record { rests = search rules; log = search rules; nearer = omega (arith, less, c.requires.full) }

pub returns-in-Err-clause-waits : goal.returns-in-Err-clause-waits
returns-in-Err-clause-waits g c = record {
  rests = ap (λ (l : Lane). l.running) c.lose_purchase.ensures.same ∙ c.requires.stands.1.begins.rests;
  log = ap (λ (l : Lane). l.log) c.lose_purchase.ensures.same;
  nearer = lane_nearer c.args.lane.now c.lose_purchase.new.lane c.args.lane_store.now c.drop_first.new.self c.requires.stands.1.begins.few c.requires.stands.1.begins.rests
      (ap (λ (l : Lane). l.running) c.lose_purchase.ensures.same ∙ c.requires.stands.1.begins.rests) c.lose_purchase.ensures.ended;
}

pub lose_purchase-requires-clause-begins : goal.lose_purchase-requires-clause-begins
lose_purchase-requires-clause-begins g c = c.requires.stands.1.begins
