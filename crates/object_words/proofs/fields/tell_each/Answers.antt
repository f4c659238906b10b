use Rattle.std.proofs.Common.{sym, ap}
use Rattle.std.specs.List.{flat_map}
use Rattle.report_lines.proofs.Telling.{left_start, left_more, left_as, left_end}
use Rattle.object_words.specs.Fields.{field_words}
use Rattle.object_words.proofs.fields.tell_each.Goals as goal

pub loop-tag-init : goal.loop-tag-init
loop-tag-init c = left_start _ _

pub loop-tag-preserved : goal.loop-tag-preserved
loop-tag-preserved c =
    let next = sym (ap (flat_map (field_words c.args.style.now)) c.in-Some.ensures.fields) in
    left_more _ _ _ _ _ _ (left_as _ _ _ _ _ next c.loop-tag.invariant) c.tell_object.ensures

pub returns : goal.returns
returns c =
    let end = sym (ap (flat_map (field_words c.args.style.now)) c.in_default.ensures.fields) in
    left_end _ _ _ (left_as _ _ _ _ _ end c.loop-tag.invariant)
