use Rattle.std.proofs.Common.{◌-◌, arith, drop, take, get_or, length, length-drop, sym}
use Rattle.std.proofs.lemmas.List.{take_all}
use Rattle.report_lines.proofs.Telling.{left_start, left_more, left_as, left_end}
use Rattle.value_words.specs.Lists.{rule_line, rules_words}
use Rattle.value_words.proofs.Parts.{rules-next, rules-end}
use Rattle.value_words.proofs.lists.tell_rules.Goals as goal

pub loop-left-init : goal.loop-left-init
loop-left-init c = left_start _ _

pub loop-left-preserved : goal.loop-left-preserved
loop-left-preserved c =
    let left = c.loop-left.left.now in
    let behind = take (length left - 2) (drop 2 left) in
    let next = rules-next c.args.level left behind (omega arith) (sym (take_all (length left - 2) (drop 2 left) (omega (arith, length-drop 2 left)))) in
    left_more _ _ _ _ (rule_line c.args.level (get_or left 0 0) (get_or left 1 0)) (rules_words c.args.level behind)
    (left_as _ _ _ _ _ next c.loop-left.invariant) c.tell_rule_line.ensures

pub returns : goal.returns
returns c =
    let end = rules-end c.args.level c.loop-left.left.now (omega arith) in
    left_end _ _ _ (left_as _ _ _ _ _ end c.loop-left.invariant)
