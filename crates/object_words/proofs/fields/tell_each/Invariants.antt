use Rattle.std.proofs.Common.{length}
use Rattle.std.specs.List.{flat_map}
use Rattle.report_lines.proofs.Telling.{Left}
use Rattle.value_words.specs.Fields.{fields_of}
use Rattle.object_words.specs.Fields.{field_words}
use Rattle.object_words.proofs.fields.tell_each.Given as goal

abbrev pub invariant-loop-tag : goal.invariant-loop-tag
invariant-loop-tag l =
    Left l.fn.out l.out (flat_map (field_words l.style) (fields_of l.fn.fields.list.now l.fn.fields.data.now)) (flat_map (field_words l.style) (fields_of l.left.list.now l.left.data.now))

abbrev pub decreases-loop-tag : goal.decreases-loop-tag
decreases-loop-tag l = length l.left.list.now
