use Rattle.std.proofs.Common.{map, string_bytes, ◌∙◌, arith}
use Rattle.explain.specs.ToldLines.{manner_in}
use Rattle.explain.proofs.Taking.{behind_end, no_words}
use Rattle.explain.proofs.options.take_options.Goals as goal

pub returns-clause-ok : goal.returns-clause-ok
returns-clause-ok c =
    c.loop-left.invariant ∙ behind_end (manner_in c.loop-left.options) (map string_bytes c.loop-left.left.now) (no_words string_bytes c.loop-left.left.now (omega arith))
