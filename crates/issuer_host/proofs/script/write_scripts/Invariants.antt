use Rattle.std.proofs.Common.{◌≡◌, ◌+◌, ◌++◌, take, length}
use Rattle.std.specs.Prelude.{sum_by, flat_map}
use Rattle.script_words.specs.MadeLength.{made_length}
use Rattle.issuer_host.specs.Scripts.{script_bytes}
use Rattle.issuer_host.proofs.script.write_scripts.Given as goal

abbrev pub invariant-loop-script : goal.invariant-loop-script
invariant-loop-script l = record {
  so_far : l.out.items ≡ l.fn.out.items ++ flat_map (script_bytes l.keys) (take l.script-index l.scripts);
  sized : length l.out.items ≡ length l.fn.out.items + sum_by made_length (take l.script-index l.scripts);
}
