use Rattle.std.proofs.Common.{length, codes, false}
use Rattle.std.specs.List.{filter}
use Rattle.report_lines.proofs.Telling.{Left}
use Rattle.value_words.specs.Fields.{fields_of}
use Rattle.object_words.specs.Fields.{is_known}
use Rattle.object_words.proofs.Known.{tags_left}
use Rattle.object_words.proofs.fields.tell_known.Given as goal

abbrev pub invariant-loop-tag : goal.invariant-loop-tag
invariant-loop-tag l =
    let test = is_known (fields_of l.known.list.now l.known.data.now) l.with_results in
    Left l.fn.out l.out
    (tags_left false l.level (codes "as in the first:") (filter test (fields_of l.fn.fields.list.now l.fn.fields.data.now)))
    (tags_left l.told l.level (codes "as in the first:") (filter test (fields_of l.left.list.now l.left.data.now)))

abbrev pub decreases-loop-tag : goal.decreases-loop-tag
decreases-loop-tag l = length l.left.list.now
