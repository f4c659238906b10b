use Rattle.std.proofs.Common.{◌≡◌, length}
use Rattle.value_words.specs.Fields.{fields_of, has_field_of}
use Rattle.value_words.proofs.fields.has_field.Given as goal

abbrev pub invariant-loop-found : goal.invariant-loop-found
invariant-loop-found l =
    has_field_of l.tag.0 l.wanted (fields_of l.left.list.now l.left.data.now) ≡ has_field_of l.tag.0 l.wanted (fields_of l.fn.fields.list.now l.fn.fields.data.now)

abbrev pub decreases-loop-found : goal.decreases-loop-found
decreases-loop-found l = length l.left.list.now
