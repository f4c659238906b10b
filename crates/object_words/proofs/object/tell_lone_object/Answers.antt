use Rattle.std.proofs.Common.{◌≡◌, ◌++◌, ◌-◌, List, ℕ, Option, sym, ap, subst, ◌∙◌, arith}
use Rattle.ber_tlv.specs.Item.{ItemData}
use Rattle.value_words.specs.declared.names.Form.{Form}
use Rattle.report_lines.specs.Pieces.{Piece, Tells}
use Rattle.report_lines.proofs.Telling.{tells_then}
use Rattle.object_words.specs.Objects.{told_item, plain_item, objects_words, template_line, level_within, name_of}
use Rattle.object_words.proofs.Opening.{item-plain, item-last, item-opened}
use Rattle.object_words.proofs.object.tell_lone_object.Goals as goal

pub returns-then-is_opened : goal.returns-then-is_opened
returns-then-is_opened c =
    let style = c.args.style.now in
    let item : ItemData = record { tag = c.args.object.now.tag.0; value = c.args.object.now.value.now; start = 0 } in
    let line = template_line (name_of item.tag) style.level item.tag in
    let held = objects_words (c.args.more - 1) (record style { level = level_within (name_of item.tag) style.level item.tag }) item.value in
    let same : told_item c.args.more style item ≡ line ++ held = item-opened _ _ _ (omega arith) (sym c.is_opened.ensures ∙ c.if-is_opened.true) in
    let level = c.tell_template.ensures.level ∙ ap (λ (n : Option (List ℕ × Form)). level_within n style.level item.tag) c.named.ensures in
    let line-told = subst (λ (n : Option (List ℕ × Form)). Tells c.args.out.now c.tell_template.new.out (template_line n style.level item.tag)) c.named.ensures c.tell_template.ensures.line in
    let held-told = subst (λ (l : ℕ). Tells c.tell_template.new.out c.tell_objects.new.out (objects_words (c.args.more - 1) (record style { level = l }) item.value)) level c.tell_objects.ensures in
    subst (λ (words : List Piece). Tells c.args.out.now c.tell_objects.new.out words) (sym same) (tells_then _ _ _ line held line-told held-told)
