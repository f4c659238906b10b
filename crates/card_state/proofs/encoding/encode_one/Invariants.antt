use Rattle.std.proofs.Common.{◌≡◌, ◌+◌, ◌*◌, ◌++◌, take, flat_map}
use Rattle.arrayvec.specs.ArrayVec.{array_vec_len}
use Rattle.card_state.specs.Encoding.{app_bytes_one}
use Rattle.card_state.proofs.encoding.encode_one.Given as goal

-- the applications so far stand behind the head
abbrev pub invariant-loop-app : goal.invariant-loop-app
invariant-loop-app l = record {
  items : l.out.items ≡ l.initial.out.items ++ flat_map app_bytes_one (take l.app-index l.state.apps.items);
  len : array_vec_len l.out ≡ 3 + 32 * l.app-index;
}
