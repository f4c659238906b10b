use Rattle.std.proofs.Common.{◌≡◌, length, map, string_bytes}
use Rattle.explain.specs.Taking.{options_behind}
use Rattle.explain.specs.ToldLines.{manner_in}
use Rattle.explain.proofs.options.take_options.Given as goal

abbrev pub invariant-loop-left : goal.invariant-loop-left
invariant-loop-left l =
    options_behind (manner_in l.fn.options) (map string_bytes l.words) ≡ options_behind (manner_in l.options) (map string_bytes l.left)

abbrev pub decreases-loop-left : goal.decreases-loop-left
decreases-loop-left l = length l.left
