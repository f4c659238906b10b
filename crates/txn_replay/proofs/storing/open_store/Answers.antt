use Rattle.std.proofs.Common.{◌≡◌, ◌+◌, ◌≤◌, Bool, false, [], ◌∷◌, ◌++◌, length, refl, sym, ap, ◌∙◌, subst, arith}
use Rattle.std.specs.Prelude.{not}
use Rattle.capture_store.specs.Calls.{list_found}
use Rattle.capture_store.specs.SeenLaneStore.{count_of}
use Rattle.capture_store.specs.StoreRow.{store_opened}
use Rattle.report_text.specs.declared.line.Line.TheVariants.{EndLost}
use Rattle.txn_replay.specs.Prepared.{PreparedBy}
use Rattle.txn_replay.specs.Standing.{seen_payment}
use Rattle.txn_replay.specs.Stored.{IsStored, StoredBy}
use Rattle.txn_replay.specs.Storing.{Before}
use Rattle.txn_replay.specs.declared.lane.Lane.{Lane}
use Rattle.txn_replay.proofs.StoreLaws.StoreOpen.{count_is}
use Rattle.txn_replay.proofs.StoreLaws.StoreFirst.{store_off, off_none, before_lost, before_opened, opened_prepared, lost_opening, left_on, left_off, lane_nearer, has_room, not_so}
use Rattle.txn_replay.proofs.storing.open_store.Goals as goal

pub open-requires-clause-off : goal.open-requires-clause-off
open-requires-clause-off g c =
    let issuer = c.requires.stands.0 in
    let accounts = c.requires.stands.1 in
    let part = c.requires.stands.2 in
    let p = seen_payment issuer accounts c.args.at.now in
    (part.lane.store, store_off p c.args.lane.now c.args.lane_store.now part c.requires.stands.3 c.requires.durable c.requires.off)

pub returns-in-Ok-clause-opened : goal.returns-in-Ok-clause-opened
returns-in-Ok-clause-opened g c = λ issuer accounts part host rests messages.
    let p = seen_payment issuer accounts c.args.at.now in
    let off = store_off p c.args.lane.now c.args.lane_store.now part rests c.requires.durable c.requires.off in
    let found = c.in-Ok.ensures.opened part.lane.store off in
    let way = before_opened p c.args.lane.now c.args.lane_store.now part rests c.requires.durable found.0
    (off_none c.args.lane_store.now part.lane.store off) c.in-Ok.ensures.spared in (
      found.0,
      subst (λ (b : Before). PreparedBy p c.args.lane.now c.open.new.self host c.clear.new.self.items (not c.is_full.result) b) (sym way)
          (opened_prepared p c.args.lane.now c.args.lane_store.now part rests c.requires.durable found.0 c.is_full.result c.open.new.self host c.clear.new.self.items found.1
          c.in-Ok.ensures.stays.losses messages c.clear.ensures (c.is_full.ensures.row _ _ found.1)),
    )

pub returns-in-Ok-clause-room : goal.returns-in-Ok-clause-room
returns-in-Ok-clause-room g c = λ begins durable.
    let p = seen_payment c.requires.stands.0 c.requires.stands.1 c.args.at.now in
    let part = c.requires.stands.2 in
    let rests = c.requires.stands.3 in
    let off = store_off p c.args.lane.now c.args.lane_store.now part rests c.requires.durable c.requires.off in
    let found = c.in-Ok.ensures.opened part.lane.store off in
    let stored : IsStored part.lane = subst (λ (b : Bool). StoredBy b part.lane) c.requires.durable rests.stored in
    let few : length (list_found part.lane.store.list part.lane.store.lost found.0) ≤ 7 = stored.few found.0 in
    let count : count_of c.open.new.self ≡ length (store_opened part.lane.store found.0).list = count_is c.open.new.self (store_opened part.lane.store found.0) _ found.1 in
    (c.in-Ok.ensures.stays.on, has_room (count_of c.open.new.self) (omega (arith, few, count)) (sym c.is_full.ensures.exact ∙ not_so c.is_full.result begins))

pub returns-in-Ok-clause-waits : goal.returns-in-Ok-clause-waits
returns-in-Ok-clause-waits g c =
    let p = seen_payment c.requires.stands.0 c.requires.stands.1 c.args.at.now in
    let off = store_off p c.args.lane.now c.args.lane_store.now c.requires.stands.2 c.requires.stands.3 c.requires.durable c.requires.off in
    record {
      rests = c.requires.stands.3.begins.rests;
      log = refl;
      nearer = omega (arith, left_on c.open.new.self c.in-Ok.ensures.stays.on, left_off c.args.lane_store.now c.requires.stands.2.lane.store off);
    }

pub returns-in-Err-clause-opened : goal.returns-in-Err-clause-opened
returns-in-Err-clause-opened g c = λ issuer accounts part host rests messages.
    let p = seen_payment issuer accounts c.args.at.now in
    let off = store_off p c.args.lane.now c.args.lane_store.now part rests c.requires.durable c.requires.off in
    let way = before_lost p c.args.lane.now c.args.lane_store.now part rests c.requires.durable false (off_none c.args.lane_store.now part.lane.store off) c.in-Err.ensures.cut in (
      false,
      subst (λ (b : Before). PreparedBy p c.lose_purchase.new.lane c.open.new.self host c.lose_purchase.new.lines.items false b) (sym way)
          (lost_opening p c.args.lane.now c.args.lane_store.now part rests c.requires.durable c.lose_purchase.new.lane c.open.new.self host c.lose_purchase.new.lines.items
          (c.lose_purchase.ensures.keeps part.lane rests.keeps) (c.in-Err.ensures.lost part.lane.store off) c.in-Err.ensures.gone messages
          (c.lose_purchase.ensures.line
          ∙ (λ i. c.clear.ensures i ++ EndLost p.lane ((c.lose_purchase.ensures.ended ∙ ap (λ n. n + 1) rests.keeps.ended) i) ∷ []))),
    )

pub returns-in-Err-clause-waits : goal.returns-in-Err-clause-waits
returns-in-Err-clause-waits g c = record {
  rests = ap (λ (l : Lane). l.running) c.lose_purchase.ensures.same ∙ c.requires.stands.3.begins.rests;
  log = ap (λ (l : Lane). l.log) c.lose_purchase.ensures.same;
  nearer = lane_nearer c.args.lane.now c.lose_purchase.new.lane c.args.lane_store.now c.open.new.self c.requires.stands.3.begins.few c.requires.stands.3.begins.rests
      (ap (λ (l : Lane). l.running) c.lose_purchase.ensures.same ∙ c.requires.stands.3.begins.rests) c.lose_purchase.ensures.ended;
}

pub lose_purchase-requires-clause-begins : goal.lose_purchase-requires-clause-begins
lose_purchase-requires-clause-begins g c = c.requires.stands.3.begins
