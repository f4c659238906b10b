use Rattle.std.proofs.Common.{◌≡◌, ◌+◌, ◌≤◌, Bool, cond, List, [], ◌∷◌, ◌++◌, length, slice_get, Some, refl, sym, ap, ◌∙◌, subst, arith}
use Rattle.std.specs.Prelude.{is_some}
use Rattle.std.specs.Vec.{vec_len}
use Rattle.capture_store.specs.SeenLaneStore.{LaneStoreSeen}
use Rattle.scenario_lanes.specs.Plan.{LaneData}
use Rattle.txn_replay.specs.Banked.{IsNewStore, AreNewStores, stores_in}
use Rattle.txn_replay.proofs.PageLaws.CardPagesBack.{one_new_store, stores_more, single, one_of, room_left}
use Rattle.txn_replay.proofs.Lists.{found_at}
use Rattle.txn_replay.proofs.bank.take_stores.Goals as goal

pub loop-index-init : goal.loop-index-init
loop-index-init g c = record {
  new = subst (λ (xs : List LaneStoreSeen). AreNewStores c.args.terminals.now xs) (sym c.requires.room.none) (λ l lane lane_store here there. cc);
  count = omega (arith, c.args.lane_stores.now.ok.0, ap (λ (xs : List LaneStoreSeen). length xs) c.requires.room.none);
  fits = c.requires.room.room;
  lanes = c.requires.few;
  within = omega arith;
  pages = omega (arith, c.requires.pages, ap (λ (xs : List LaneStoreSeen). stores_in xs) c.requires.room.none);
  few = omega (arith, ap (λ (xs : List LaneStoreSeen). stores_in xs) c.requires.room.none);
  left = λ cards most room. omega (arith, most, c.requires.pages);
  blank = c.requires.blank;
  capacity = refl;
}

pub take_store-lane_store-requires-clause-place : goal.take_store-lane_store-requires-clause-place
take_store-lane_store-requires-clause-place g c = λ durable.
    omega (arith, c.loop-index.invariant.pages, c.loop-index.invariant.few, c.loop-index.invariant.lanes, c.loop-index-test.true)

pub loop-index-preserved : goal.loop-index-preserved
loop-index-preserved g c =
    let lane = c.index-terminals-index.result in
    let here : slice_get c.args.terminals.now c.loop-index.index ≡ Some lane = found_at c.args.terminals.now c.loop-index.index lane c.loop-index-test.true c.index-terminals-index.is in
    let more : c.push.new.self.items ≡ c.loop-index.lane_stores.items ++ c.take_store-lane_store.result ∷ [] = c.in-Ok.ensures.items in
    let count : stores_in c.push.new.self.items ≡ stores_in c.loop-index.lane_stores.items + cond (is_some c.take_store-lane_store.result) 1 0 =
    ap (λ (xs : List LaneStoreSeen). stores_in xs) more ∙ stores_more c.loop-index.lane_stores.items c.take_store-lane_store.result in
    let own : stores_in (c.take_store-lane_store.result ∷ []) ≡ cond (is_some c.take_store-lane_store.result) 1 0 = single c.take_store-lane_store.result in
    let durable : c.terminal.inside.durable ≡ lane.durable = ap (λ (x : LaneData). x.durable) c.terminal.view_is in
    let few : cond (is_some c.take_store-lane_store.result) 1 0 ≤ 1 = one_of c.take_store-lane_store.result in
    record {
      new = subst (λ (xs : List LaneStoreSeen). AreNewStores c.args.terminals.now xs) (sym more)
          (one_new_store c.args.terminals.now c.loop-index.lane_stores.items lane c.take_store-lane_store.result c.loop-index.invariant.new
          (ap (λ n. slice_get c.args.terminals.now n) (sym c.loop-index.lane_stores.ok.0 ∙ c.loop-index.invariant.count) ∙ here)
          (subst (λ (b : Bool). IsNewStore c.take_store-lane_store.result b) durable c.take_store-lane_store.ensures.new));
      count = c.in-Ok.ensures.len ∙ ap (λ n. n + 1) c.loop-index.invariant.count;
      fits = omega (arith, c.loop-index.invariant.fits, c.push.ensures.capacity);
      lanes = c.loop-index.invariant.lanes;
      within = omega (arith, c.loop-index-test.true);
      pages = omega (arith, c.loop-index.invariant.pages, c.take_store-lane_store.ensures.length, count, own);
      few = omega (arith, c.loop-index.invariant.few, count, few);
      left = λ cards most room.
          room_left cards c.loop-index.index _ _ (stores_in c.loop-index.lane_stores.items) c.take_store-lane_store.result lane.durable (c.take_store-lane_store.ensures.some ∙ durable)
          c.loop-index.invariant.pages c.loop-index.invariant.few (omega (arith, c.loop-index-test.true, c.loop-index.invariant.lanes))
          (ap (λ n. vec_len c.take_store-lane_store.new.bank + n) (sym own) ∙ c.take_store-lane_store.ensures.length) (c.loop-index.invariant.left cards most room)
          (λ durable. room c.loop-index.index lane here durable);
      blank = c.take_store-lane_store.ensures.bank.blank;
      capacity = c.take_store-lane_store.ensures.bank.same ∙ c.loop-index.invariant.capacity;
    }
