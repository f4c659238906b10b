use Rattle.std.proofs.Common.{List, ℕ, sym, ap, ◌∙◌, arith}
use Rattle.std.specs.List.{flat_map}
use Rattle.report_lines.proofs.Telling.{left_start, left_more, left_as, left_end}
use Rattle.object_words.specs.Leading.{leading_behind}
use Rattle.message_words.specs.Objects.{sent_before, if_repeated}
use Rattle.message_words.proofs.objects.tell_tags.Goals as goal

pub loop-item-init : goal.loop-item-init
loop-item-init c =
    let words = if_repeated (sent_before c.args.known) in
    let start = ap (λ (b : List ℕ). flat_map words (leading_behind b 0)) (sym c.new-cursor.ensures.bytes)
    ∙ ap (λ (p : ℕ). flat_map words (leading_behind c.new-cursor.result.bytes p)) (sym c.new-cursor.ensures.place) in
    record {
      within = omega arith;
      left = left_as _ _ _ _ _ start (left_start _ _);
    }

pub loop-item-preserved : goal.loop-item-preserved
loop-item-preserved c =
    let next = sym (ap (flat_map (if_repeated (sent_before c.args.known))) c.in-Some.ensures.items) in
    record {
      within = c.in-Some.ensures.within;
      left = left_more _ _ _ _ _ _ (left_as _ _ _ _ _ next c.loop-item.invariant.left) c.tell_if_repeated.ensures;
    }

pub returns : goal.returns
returns c =
    let end = sym (ap (flat_map (if_repeated (sent_before c.args.known))) c.in_default.ensures.items) in
    left_end _ _ _ (left_as _ _ _ _ _ end c.loop-item.invariant.left)
