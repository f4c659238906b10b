use Rattle.std.proofs.Common.{◌≡◌, ◌≤◌, ◌+◌, ◌*◌, ◌++◌, take, flat_map}
use Rattle.std.specs.List.{All}
use Rattle.arrayvec.specs.ArrayVec.{array_vec_len}
use Rattle.card_state.specs.Encoding.{app_bytes, IsAppState}
use Rattle.card_state.proofs.encoding.encode.Given as goal

-- the applications so far stand behind the head
abbrev pub invariant-loop-app : goal.invariant-loop-app
invariant-loop-app l = record {
  items : l.out.items ≡ l.initial.out.items ++ flat_map app_bytes (take l.app-index l.state.apps.items);
  len : array_vec_len l.out ≤ 3 + 190 * l.app-index;
  ranges : All IsAppState (take l.app-index l.state.apps.items);
}
