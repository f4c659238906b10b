use Rattle.std.proofs.Common.{◌≡◌, length}
use Rattle.value_words.specs.Fields.{are_fitting}
use Rattle.value_words.proofs.fields.fits.Given as goal

abbrev pub invariant-loop-rest : goal.invariant-loop-rest
invariant-loop-rest l = are_fitting l.left.list.now l.left.data.now ≡ are_fitting l.fn.fields.list.now l.fn.fields.data.now

abbrev pub decreases-loop-rest : goal.decreases-loop-rest
decreases-loop-rest l = length l.left.list.now
