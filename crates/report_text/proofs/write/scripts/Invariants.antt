use Rattle.std.proofs.Common.{◌≡◌, ◌*◌, take}
use Rattle.std.specs.List.{flat_map}
use Rattle.arrayvec.specs.ArrayVec.{array_vec_len}
use Rattle.report_text.proofs.write.scripts.Given as goal

abbrev pub invariant-loop-script : goal.invariant-loop-script
invariant-loop-script l = record {
  text : l.joined.items ≡ flat_map (λ five. five) (take l.script-index l.results);
  len : array_vec_len l.joined ≡ 5 * l.script-index;
}
