use Rattle.std.proofs.Common.{◌≡◌, ◌≤◌, length, ◌-◌}
use Rattle.ber_tlv.specs.Walked.{walk_behind}
use Rattle.env_map.specs.Gathered.{gathered}
use Rattle.env_map.proofs.gathering.+gather_behind.Given as goal

abbrev pub decreases-gather_behind : goal.decreases-gather_behind
decreases-gather_behind l = length l.cursor.now.bytes - l.cursor.now.place

abbrev pub invariant-loop-item : goal.invariant-loop-item
invariant-loop-item l = record {
  same_bytes : l.cursor.bytes ≡ l.fn.cursor.bytes;
  onward : l.fn.cursor.place ≤ l.cursor.place;
  within : l.cursor.place ≤ length l.cursor.bytes;
  same : gathered l.env (walk_behind l.cursor.bytes l.cursor.place) ≡ gathered l.fn.env (walk_behind l.fn.cursor.bytes l.fn.cursor.place);
}

abbrev pub decreases-loop-item : goal.decreases-loop-item
decreases-loop-item l = length l.cursor.bytes - l.cursor.place
