use Rattle.std.proofs.Common.{List, [], ◌++◌, ℕ, true, append_assoc, cond, codes, map, sym, ap, ◌∙◌}
use Rattle.report_lines.proofs.Telling.{left_start, left_more, left_as, left_end, joined_none}
use Rattle.report_lines.specs.Pieces.{text, joined}
use Rattle.value_words.specs.Fields.{list_entries}
use Rattle.value_words.specs.Lists.{entry_words}
use Rattle.value_words.proofs.Entries.{entries-some, entries-none}
use Rattle.value_words.proofs.Parts.{joined-next}
use Rattle.value_words.proofs.lists.tell_entries.Goals as goal

pub loop-tag-init : goal.loop-tag-init
loop-tag-init c = left_start _ _

pub loop-tag-preserved : goal.loop-tag-preserved
loop-tag-preserved c =
    let before = cond c.loop-tag.told (text (codes " ")) [] in
    let one = entry_words (c.in-Some.tag.0, c.in-Some.count) in
    let others = joined true (text (codes " ")) (map entry_words (list_entries c.in-Some.rest.now).0) in
    let next = ap (λ (m : List (ℕ × ℕ) × List ℕ). joined c.loop-tag.told (text (codes " ")) (map entry_words m.0)) (entries-some c.loop-tag.left.now _ (sym c.in-Some.ensures.exact))
    ∙ joined-next c.loop-tag.told (text (codes " ")) one (map entry_words (list_entries c.in-Some.rest.now).0)
    ∙ append_assoc before one others in
    left_more _ _ _ _ one others (left_more _ _ _ _ before (one ++ others) (left_as _ _ _ _ _ next c.loop-tag.invariant) c.tell_blank.ensures) c.tell_entry.ensures

pub returns : goal.returns
returns c =
    let end = ap (λ (m : List (ℕ × ℕ) × List ℕ). joined c.loop-tag.told (text (codes " ")) (map entry_words m.0)) (entries-none c.loop-tag.left.now (sym c.in_default.ensures.exact))
    ∙ joined_none c.loop-tag.told (text (codes " ")) in
    left_end _ _ _ (left_as _ _ _ _ _ end c.loop-tag.invariant)
