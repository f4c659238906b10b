use Rattle.std.proofs.Common.{◌≡◌, length}
use Rattle.value_words.specs.Fields.{fields_of, value_among}
use Rattle.value_words.proofs.fields.value_in.Given as goal

abbrev pub invariant-loop-found : goal.invariant-loop-found
invariant-loop-found l =
    value_among l.tag.0 l.count (fields_of l.left.list.now l.left.data.now) ≡ value_among l.tag.0 l.count (fields_of l.fn.fields.list.now l.fn.fields.data.now)

abbrev pub decreases-loop-found : goal.decreases-loop-found
decreases-loop-found l = length l.left.list.now
