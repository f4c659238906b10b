use Rattle.std.proofs.Common.{sym, ap}
use Rattle.std.specs.List.{flat_map}
use Rattle.report_lines.proofs.Telling.{left_start, left_more, left_as, left_end}
use Rattle.value_words.specs.Fields.{fields_of}
use Rattle.object_words.specs.Fields.{new_words, is_known}
use Rattle.object_words.proofs.fields.tell_new.Goals as goal

pub loop-tag-init : goal.loop-tag-init
loop-tag-init c = left_start _ _

pub loop-tag-preserved : goal.loop-tag-preserved
loop-tag-preserved c =
    let words = new_words c.args.style.now (is_known (fields_of c.args.known.list.now c.args.known.data.now) c.args.with_results) in
    let next = sym (ap (flat_map words) c.in-Some.ensures.fields) in
    left_more _ _ _ _ _ _ (left_as _ _ _ _ _ next c.loop-tag.invariant) (rw c.is_known-known.ensures at c.tell_if_new.ensures)

pub returns : goal.returns
returns c =
    let words = new_words c.args.style.now (is_known (fields_of c.args.known.list.now c.args.known.data.now) c.args.with_results) in
    let end = sym (ap (flat_map words) c.in_default.ensures.fields) in
    left_end _ _ _ (left_as _ _ _ _ _ end c.loop-tag.invariant)
