use Rattle.std.proofs.Common.{sym, ◌∙◌, arith}
use Rattle.value_words.proofs.Places.{filled-next, filled-none, filled-end}
use Rattle.value_words.proofs.plain.are_filled.Goals as goal

pub loop-byte-preserved : goal.loop-byte-preserved
loop-byte-preserved c =
    sym (filled-next c.loop-byte.filler c.in-Some.behind c.args.value.now c.loop-byte.byte-index (omega arith) (sym c.in-Some.ensures)) ∙ c.loop-byte.invariant

pub returns-in-None : goal.returns-in-None
returns-in-None c =
    sym (filled-none c.loop-byte.filler c.args.value.now c.loop-byte.byte-index (omega arith) (sym c.in-None.ensures)) ∙ c.loop-byte.invariant

pub returns : goal.returns
returns c = sym (filled-end c.loop-byte.filler c.args.value.now c.loop-byte.byte-index (omega arith)) ∙ c.loop-byte.invariant
