use Rattle.std.proofs.Common.{◌≡◌, ◌≤◌, ◌+◌, List, Option, map, drop, take, length}
use Rattle.std.specs.Vec.{vec_len, vec_capacity}
use Rattle.emv_ports.specs.Memory.{Memory}
use Rattle.txn_replay.specs.Banked.{stores_in, StoresAreGiven, with_stores}
use Rattle.txn_replay.proofs.bank.give_stores.Given as goal

abbrev pub decreases-loop-lane_store : goal.decreases-loop-lane_store
decreases-loop-lane_store g l = vec_len l.lane_stores

abbrev pub invariant-loop-lane_store : goal.invariant-loop-lane_store
invariant-loop-lane_store g l = record {
  rest : l.lane_stores.items ≡ take (vec_len l.lane_stores) l.fn.lane_stores.items;
  within : vec_len l.lane_stores ≤ length l.fn.lane_stores.items;
  few : vec_len l.lane_stores ≤ 16;
  given : (pages : List (Option Memory)) × StoresAreGiven (drop (vec_len l.lane_stores) l.fn.lane_stores.items) pages
      × (map g.P.Pages.memory l.bank.items ≡ with_stores (vec_len l.lane_stores) pages (map g.P.Pages.memory l.fn.bank.items));
  count : vec_len l.bank + stores_in l.lane_stores.items ≡ 64;
  capacity : 64 ≤ vec_capacity l.bank;
}
