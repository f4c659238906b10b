use Rattle.std.proofs.Common.{◌++◌, ◌-◌, arith, append_assoc, drop, take, get_or, length, length-drop, sym, ◌∙◌}
use Rattle.std.proofs.lemmas.List.{take_all}
use Rattle.report_lines.proofs.Telling.{left_start, left_more, left_as, left_end}
use Rattle.value_words.specs.Lists.{comma_before, group_words, groups_words}
use Rattle.value_words.proofs.Parts.{groups-next, groups-end}
use Rattle.value_words.proofs.lists.tell_groups.Goals as goal

pub loop-left-init : goal.loop-left-init
loop-left-init c = left_start _ _

pub loop-left-preserved : goal.loop-left-preserved
loop-left-preserved c =
    let left = c.loop-left.left.now in
    let behind = take (length left - 4) (drop 4 left) in
    let one = group_words (get_or left 0 0) (get_or left 1 0) (get_or left 2 0) (get_or left 3 0) in
    let next = groups-next left behind (omega arith) (sym (take_all (length left - 4) (drop 4 left) (omega (arith, length-drop 4 left))))
    ∙ append_assoc one (comma_before behind) (groups_words behind) in
    left_more _ _ _ _ (comma_before behind) (groups_words behind)
    (left_more _ _ _ _ one (comma_before behind ++ groups_words behind) (left_as _ _ _ _ _ next c.loop-left.invariant) c.tell_group.ensures)
    c.tell_comma.ensures

pub returns : goal.returns
returns c =
    let end = groups-end c.loop-left.left.now (omega arith) in
    left_end _ _ _ (left_as _ _ _ _ _ end c.loop-left.invariant)
