use Rattle.std.proofs.Common.{◌≡◌, ◌+◌, ◌*◌, ◌≤◌, ◌++◌, length}
use Rattle.arrayvec.specs.ArrayVec.{array_vec_len}
use Rattle.read_records.specs.Afl.{groups_in, places_of}
use Rattle.read_records.proofs.afl.groups_in.Given as goal

abbrev pub invariant-loop-rest : goal.invariant-loop-rest
invariant-loop-rest l = record {
  count : 4 * array_vec_len l.groups + length l.rest ≡ length l.afl;
  few : length (places_of l.groups.items) ≤ 256 * length l.groups.items;
  split : l.groups.items ++ groups_in l.rest ≡ groups_in l.afl;
}

abbrev pub decreases-loop-rest : goal.decreases-loop-rest
decreases-loop-rest l = length l.rest
