use Rattle.std.proofs.Common.{List, ℕ, Bool, ◌||◌, sym, ap, ◌∙◌, arith}
use Rattle.std.specs.List.{list_any}
use Rattle.object_words.specs.Leading.{leading_behind}
use Rattle.message_words.specs.Objects.{sent_before, is_repeated}
use Rattle.message_words.proofs.objects.are_repeated.Goals as goal

pub loop-item-init : goal.loop-item-init
loop-item-init c =
    let test = is_repeated (sent_before c.args.known) in
    record {
      within = omega arith;
      left = ap (λ (b : List ℕ). list_any test (leading_behind b 0)) (sym c.new-cursor.ensures.bytes)
          ∙ ap (λ (p : ℕ). list_any test (leading_behind c.new-cursor.result.bytes p)) (sym c.new-cursor.ensures.place);
    }

pub returns-then-is_repeated : goal.returns-then-is_repeated
returns-then-is_repeated c =
    let test = is_repeated (sent_before c.args.known) in
    let behind = list_any test (leading_behind c.next_item.new.cursor.bytes c.next_item.new.cursor.place) in
    sym (c.loop-item.invariant.left ∙ sym (ap (list_any test) c.in-Some.ensures.items)
    ∙ ap (λ (b : Bool). b || behind) (sym c.is_repeated.ensures ∙ c.if-is_repeated.true))

pub loop-item-preserved : goal.loop-item-preserved
loop-item-preserved c =
    let test = is_repeated (sent_before c.args.known) in
    let behind = list_any test (leading_behind c.next_item.new.cursor.bytes c.next_item.new.cursor.place) in
    record {
      within = c.in-Some.ensures.within;
      left = c.loop-item.invariant.left ∙ sym (ap (list_any test) c.in-Some.ensures.items)
          ∙ ap (λ (b : Bool). b || behind) (sym c.is_repeated.ensures ∙ c.if-is_repeated.false);
    }

pub returns : goal.returns
returns c =
    let test = is_repeated (sent_before c.args.known) in
    sym (c.loop-item.invariant.left ∙ sym (ap (list_any test) c.in_default.ensures.items))
