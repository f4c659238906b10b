use Rattle.std.proofs.Common.{◌≡◌, ◌++◌, ◌-◌, List, ℕ, Option, sym, ap, subst, append_assoc, ◌∙◌, arith}
use Rattle.std.specs.List.{flat_map}
use Rattle.ber_tlv.specs.Seen.{seen}
use Rattle.value_words.specs.declared.names.Form.{Form}
use Rattle.report_lines.specs.Pieces.{Piece, Tells}
use Rattle.report_lines.proofs.Telling.{left_start, left_more, left_as, left_end}
use Rattle.object_words.specs.Leading.{leading_behind}
use Rattle.object_words.specs.Objects.{told_item, plain_item, objects_words, template_line, level_within, name_of}
use Rattle.object_words.proofs.Opening.{objects-each, item-plain, item-last, item-opened}
use Rattle.object_words.proofs.object.+tell_objects.Goals as goal
use Rattle.object_words.proofs.object.+tell_objects.Goals.{else-more-gt0-via-then-more-gt0+else-is_opened, else-more-gt0-via-else-more-gt0}

pub loop-item-init : goal.loop-item-init
loop-item-init t c =
    let told = told_item c.args.more c.args.style.now in
    let cursor = c.new-cursor.result in
    let words = objects-each c.args.more c.args.style.now c.args.bytes.now
    ∙ ap (λ (b : List ℕ). flat_map told (leading_behind b 0)) (sym c.new-cursor.ensures.bytes)
    ∙ ap (λ (p : ℕ). flat_map told (leading_behind cursor.bytes p)) (sym c.new-cursor.ensures.place) in
    record {
      within = omega arith;
      left = left_as _ _ _ _ _ words (left_start _ _);
    }

pub loop-item-preserved-then-is_opened : goal.loop-item-preserved-then-is_opened
loop-item-preserved-then-is_opened t c =
    let style = c.args.style.now in
    let told = told_item c.args.more style in
    let item = seen c.in-Some.item in
    let behind = flat_map told (leading_behind c.next_item.new.cursor.bytes c.next_item.new.cursor.place) in
    let line = template_line (name_of item.tag) style.level item.tag in
    let held = objects_words (c.args.more - 1) (record style { level = level_within (name_of item.tag) style.level item.tag }) item.value in
    let same : told item ≡ line ++ held = item-opened _ _ _ (omega arith) (sym c.is_opened.ensures ∙ c.if-is_opened.true) in
    let next = sym (ap (flat_map told) c.in-Some.ensures.items) ∙ ap (λ (words : List Piece). words ++ behind) same ∙ append_assoc line held behind in
    let level = c.tell_template.ensures.level ∙ ap (λ (n : Option (List ℕ × Form)). level_within n style.level item.tag) c.named.ensures in
    let line-told = subst (λ (n : Option (List ℕ × Form)). Tells c.loop-item.out c.tell_template.new.out (template_line n style.level item.tag)) c.named.ensures c.tell_template.ensures.line in
    let held-told = subst (λ (l : ℕ). Tells c.tell_template.new.out c.tell_objects.new.out (objects_words (c.args.more - 1) (record style { level = l }) item.value)) level c.tell_objects.ensures in
    record {
      within = c.in-Some.ensures.within;
      left = left_more _ _ _ _ held behind (left_more _ _ _ _ line (held ++ behind) (left_as _ _ _ _ _ next c.loop-item.invariant.left) line-told) held-told;
    }

pub loop-item-preserved : goal.loop-item-preserved
loop-item-preserved t c =
    let told = told_item c.args.more c.args.style.now in
    let item = seen c.in-Some.item in
    let behind = flat_map told (leading_behind c.next_item.new.cursor.bytes c.next_item.new.cursor.place) in
    let same : told item ≡ plain_item c.args.style.now item = elim c.else-more-gt0.branch [
      | else-more-gt0-via-then-more-gt0+else-is_opened w ↦ item-plain _ _ _ (sym w.is_opened.ensures ∙ w.if-is_opened.false)
      | else-more-gt0-via-else-more-gt0 w ↦ item-last _ _ _ (omega arith)
    ] in
    let next = sym (ap (flat_map told) c.in-Some.ensures.items) ∙ ap (λ (words : List Piece). words ++ behind) same in
    record {
      within = c.in-Some.ensures.within;
      left = left_more _ _ _ _ (plain_item c.args.style.now item) behind (left_as _ _ _ _ _ next c.loop-item.invariant.left) c.tell_item.ensures;
    }

pub returns : goal.returns
returns t c =
    let end = sym (ap (flat_map (told_item c.args.more c.args.style.now)) c.in_default.ensures.items) in
    left_end _ _ _ (left_as _ _ _ _ _ end c.loop-item.invariant.left)
