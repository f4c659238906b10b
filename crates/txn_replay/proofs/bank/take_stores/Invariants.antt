use Rattle.std.proofs.Common.{◌≡◌, ◌≤◌, ◌+◌, ℕ, map, length}
use Rattle.std.specs.List.{All}
use Rattle.std.specs.Vec.{vec_len, vec_capacity}
use Rattle.emv_ports.specs.Memory.{IsBlank}
use Rattle.scenario_lanes.specs.Plan.{HaveRoom}
use Rattle.txn_replay.specs.Banked.{AreNewStores, stores_in}
use Rattle.txn_replay.proofs.bank.take_stores.Given as goal

abbrev pub invariant-loop-index : goal.invariant-loop-index
invariant-loop-index g l = record {
  new : AreNewStores l.terminals l.lane_stores.items;
  count : vec_len l.lane_stores ≡ l.index;
  fits : length l.terminals ≤ vec_capacity l.lane_stores;
  lanes : length l.terminals ≤ 16;
  within : l.index ≤ l.index-end;
  pages : vec_len l.bank + stores_in l.lane_stores.items ≡ 64;
  few : stores_in l.lane_stores.items ≤ l.index;
  left : (cards : ℕ) → cards ≤ 64 → HaveRoom cards l.terminals → cards ≤ vec_len l.bank;
  blank : All IsBlank (map g.P.Pages.memory l.bank.items);
  capacity : vec_capacity l.bank ≡ vec_capacity l.fn.bank;
}
