use Rattle.std.proofs.Common.{◌≡◌, suc, ◌+◌, ◌-◌, cond, List, [], ◌∷◌, map, drop, take, get_or, slice_get, Some, refl, sym, ap, ◌∙◌, subst, arith}
use Rattle.std.proofs.Math.Seq.{take-length}
use Rattle.std.proofs.lemmas.List.{get_or-take}
use Rattle.std.proofs.lemmas.Option.{same_Some}
use Rattle.std.specs.Prelude.{is_some}
use Rattle.std.specs.Vec.{vec_len}
use Rattle.capture_store.specs.SeenLaneStore.{LaneStoreSeen}
use Rattle.emv_ports.specs.Memory.{Memory}
use Rattle.scenario_lanes.specs.Plan.{last_pages}
use Rattle.txn_replay.specs.Banked.{stores_in, StoresAreGiven, with_pages, with_stores}
use Rattle.txn_replay.proofs.PageLaws.CardPagesBack.{stores_more, stores_few, single, lane_store_given, take_less}
use Rattle.txn_replay.proofs.Lists.{drop_past, found_at}
use Rattle.txn_replay.proofs.bank.give_stores.Goals as goal

pub loop-lane_store-init : goal.loop-lane_store-init
loop-lane_store-init g c = record {
  rest = sym (ap (λ n. take n c.args.lane_stores.items) c.args.lane_stores.ok.0 ∙ take-length c.args.lane_stores.items);
  within = omega (arith, c.args.lane_stores.ok.0);
  few = c.requires.few;
  given = ([], subst (λ (xs : List LaneStoreSeen). StoresAreGiven xs []) (sym (drop_past c.args.lane_stores.items (vec_len c.args.lane_stores) (omega (arith, c.args.lane_stores.ok.0)))) tt, refl);
  count = c.requires.pages;
  capacity = c.requires.capacity;
}

pub put_back-requires-clause-place : goal.put_back-requires-clause-place
put_back-requires-clause-place g c =
    let more : stores_in c.loop-lane_store.lane_stores.items ≡ stores_in c.pop.new.self.items + cond (is_some c.in-Some.lane_store) 1 0 =
    ap (λ (xs : List LaneStoreSeen). stores_in xs) c.in-Some.ensures.items ∙ stores_more c.pop.new.self.items c.in-Some.lane_store in
    let few = stores_few c.loop-lane_store.lane_stores.items in
    omega (arith, few, c.loop-lane_store.lane_stores.ok.0, c.in-Some.ensures.len, c.loop-lane_store.invariant.count, c.loop-lane_store.invariant.few)

pub put_back-requires-clause-room : goal.put_back-requires-clause-room
put_back-requires-clause-room g c =
    let more : stores_in c.loop-lane_store.lane_stores.items ≡ stores_in c.pop.new.self.items + cond (is_some c.in-Some.lane_store) 1 0 =
    ap (λ (xs : List LaneStoreSeen). stores_in xs) c.in-Some.ensures.items ∙ stores_more c.pop.new.self.items c.in-Some.lane_store in
    omega (arith, more, single c.in-Some.lane_store, c.loop-lane_store.invariant.count, c.loop-lane_store.invariant.capacity)

pub loop-lane_store-preserved : goal.loop-lane_store-preserved
loop-lane_store-preserved g c =
    let left : vec_len c.pop.new.self + 1 ≡ vec_len c.loop-lane_store.lane_stores = c.in-Some.ensures.len in
    let last : vec_len c.loop-lane_store.lane_stores - 1 ≡ vec_len c.pop.new.self = omega (arith, left) in
    let next : vec_len c.loop-lane_store.lane_stores ≡ suc (vec_len c.pop.new.self) = omega (arith, left) in
    let lane_store : c.in-Some.lane_store ≡ get_or c.args.lane_stores.items (vec_len c.pop.new.self) c.in-Some.lane_store =
    same_Some c.in-Some.lane_store (get_or c.loop-lane_store.lane_stores.items (vec_len c.loop-lane_store.lane_stores - 1) c.in-Some.lane_store) (c.in-Some.ensures.value c.in-Some.lane_store (omega (arith, left)))
    ∙ ap (λ (xs : List LaneStoreSeen). get_or xs (vec_len c.loop-lane_store.lane_stores - 1) c.in-Some.lane_store) c.loop-lane_store.invariant.rest
    ∙ get_or-take (vec_len c.loop-lane_store.lane_stores) c.args.lane_stores.items (vec_len c.loop-lane_store.lane_stores - 1) c.in-Some.lane_store (omega (arith, left))
    ∙ ap (λ n. get_or c.args.lane_stores.items n c.in-Some.lane_store) last in
    let here : slice_get c.args.lane_stores.items (vec_len c.pop.new.self) ≡ Some c.in-Some.lane_store =
    found_at c.args.lane_stores.items (vec_len c.pop.new.self) c.in-Some.lane_store (omega (arith, left, c.loop-lane_store.invariant.within)) lane_store in
    let more : stores_in c.loop-lane_store.lane_stores.items ≡ stores_in c.pop.new.self.items + cond (is_some c.in-Some.lane_store) 1 0 =
    ap (λ (xs : List LaneStoreSeen). stores_in xs) c.in-Some.ensures.items ∙ stores_more c.pop.new.self.items c.in-Some.lane_store in
    let before = c.loop-lane_store.invariant.given in
    let own = c.put_back.ensures.given in
    record {
      rest =
          c.in-Some.ensures.rest
          ∙ ap (λ (xs : List LaneStoreSeen). take (vec_len c.loop-lane_store.lane_stores - 1) xs) c.loop-lane_store.invariant.rest
          ∙ take_less (vec_len c.loop-lane_store.lane_stores - 1) (vec_len c.loop-lane_store.lane_stores) c.args.lane_stores.items (omega arith)
          ∙ ap (λ n. take n c.args.lane_stores.items) last;
      within = omega (arith, left, c.loop-lane_store.invariant.within);
      few = omega (arith, left, c.loop-lane_store.invariant.few);
      given = (
        own.0 ∷ before.0,
        lane_store_given c.args.lane_stores.items (vec_len c.pop.new.self) c.in-Some.lane_store own.0 before.0 here own.1
            (subst (λ n. StoresAreGiven (drop n c.args.lane_stores.items) before.0) next before.1),
        own.2
            ∙ ap (λ n. with_pages (last_pages - n) own.0 (map g.P.Pages.memory c.loop-lane_store.bank.items)) c.len.ensures
            ∙ ap (λ (ms : List Memory). with_pages (last_pages - vec_len c.pop.new.self) own.0 ms)
            (before.2 ∙ ap (λ n. with_stores n before.0 (map g.P.Pages.memory c.args.bank.items)) (sym left)),
      );
      count = omega (arith, more, single c.in-Some.lane_store, c.loop-lane_store.invariant.count, c.put_back.ensures.length);
      capacity = omega (arith, c.loop-lane_store.invariant.capacity, c.put_back.ensures.capacity);
    }

pub returns-clause-given : goal.returns-clause-given
returns-clause-given g c =
    let none : vec_len c.loop-lane_store.lane_stores ≡ 0 = c.in_default.ensures.cases.0 in
    let before = c.loop-lane_store.invariant.given in (
      before.0,
      subst (λ n. StoresAreGiven (drop n c.args.lane_stores.items) before.0) none before.1,
      before.2 ∙ ap (λ n. with_stores n before.0 (map g.P.Pages.memory c.args.bank.items)) none,
    )

pub returns-clause-length : goal.returns-clause-length
returns-clause-length g c =
    let few = stores_few c.loop-lane_store.lane_stores.items in
    omega (arith, few, c.loop-lane_store.lane_stores.ok.0, c.in_default.ensures.cases.0, c.loop-lane_store.invariant.count)
