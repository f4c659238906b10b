use Rattle.std.proofs.Common.{List, ℕ, codes, sym, ap, ◌∙◌}
use Rattle.std.specs.List.{filter}
use Rattle.report_lines.proofs.Telling.{left_start, left_more, left_as, left_end}
use Rattle.value_words.specs.Fields.{fields_of}
use Rattle.object_words.specs.Fields.{is_known}
use Rattle.object_words.proofs.Known.{tags_left, tags-next, tags-none}
use Rattle.object_words.proofs.fields.tell_known.Goals as goal

pub loop-tag-init : goal.loop-tag-init
loop-tag-init c = left_start _ _

pub loop-tag-preserved : goal.loop-tag-preserved
loop-tag-preserved c =
    let test = is_known (fields_of c.args.known.list.now c.args.known.data.now) c.args.with_results in
    let words = codes "as in the first:" in
    let next = sym (ap (λ (fields : List (ℕ × List ℕ)). tags_left c.loop-tag.told c.args.level words (filter test fields)) c.in-Some.ensures.fields)
    ∙ tags-next (test (c.in-Some.tag.0, c.in-Some.value.now)) c.loop-tag.told c.args.level words (c.in-Some.tag.0, c.in-Some.value.now)
    (filter test (fields_of c.in-Some.rest.list.now c.in-Some.rest.data.now)) in
    rw c.tell_if_known-told.ensures.told
    (rw c.is_known-known.ensures (left_more _ _ _ _ _ _ (left_as _ _ _ _ _ next c.loop-tag.invariant) (rw c.is_known-known.ensures at c.tell_if_known-told.ensures.words)))

pub returns : goal.returns
returns c =
    let test = is_known (fields_of c.args.known.list.now c.args.known.data.now) c.args.with_results in
    let words = codes "as in the first:" in
    let end = sym (ap (λ (fields : List (ℕ × List ℕ)). tags_left c.loop-tag.told c.args.level words (filter test fields)) c.in_default.ensures.fields)
    ∙ tags-none c.loop-tag.told c.args.level words in
    left_end _ _ _ (left_as _ _ _ _ _ end c.loop-tag.invariant)
