use Rattle.std.proofs.Common.{List, ℕ, ◌+◌, ◌++◌, Option, sym, ap, ◌∙◌, arith}
use Rattle.report_lines.proofs.Telling.{left_start, left_more, left_as, left_end}
use Rattle.message_words.specs.Fields.{has_field_bit, named_from}
use Rattle.message_words.specs.Iso.{words_if_named}
use Rattle.message_words.specs.Objects.{sent_before}
use Rattle.message_words.proofs.Bitmap.{fields_behind, fields-next, fields-end}
use Rattle.message_words.proofs.iso.tell_message_fields.Goals as goal

pub loop-number-init : goal.loop-number-init
loop-number-init c = left_start _ _

pub loop-number-preserved : goal.loop-number-preserved
loop-number-preserved c =
    let known = sent_before c.args.known in
    let n = c.loop-number.number in
    let others = named_from c.args.bitmap.now (n + 1) in
    let told = rw c.is_named-named.ensures at c.in-Some.ensures.words in
    let behind = rw c.is_named-named.ensures at c.in-Some.ensures.rest in
    let words = words_if_named c.args.style.now known (has_field_bit c.args.bitmap.now n) n c.loop-number.rest.now in
    let next = fields-next c.args.style.now known c.args.bitmap.now n c.loop-number.rest.now (omega arith)
    ∙ ap (λ (r : Option (List ℕ)). words ++ fields_behind c.args.style.now known others r) (sym behind) in
    left_more _ _ _ _ _ _ (left_as _ _ _ _ _ next c.loop-number.invariant) told

pub returns-in-None : goal.returns-in-None
returns-in-None c =
    let known = sent_before c.args.known in
    let n = c.loop-number.number in
    let others = named_from c.args.bitmap.now (n + 1) in
    let told = rw c.is_named-named.ensures at c.in-None.ensures.words in
    let behind = rw c.is_named-named.ensures at c.in-None.ensures.rest in
    let words = words_if_named c.args.style.now known (has_field_bit c.args.bitmap.now n) n c.loop-number.rest.now in
    let next = fields-next c.args.style.now known c.args.bitmap.now n c.loop-number.rest.now (omega arith)
    ∙ ap (λ (r : Option (List ℕ)). words ++ fields_behind c.args.style.now known others r) (sym behind) in
    left_end _ _ _ (left_more _ _ _ _ _ _ (left_as _ _ _ _ _ next c.loop-number.invariant) told)

pub returns : goal.returns
returns c =
    let end = fields-end c.args.style.now (sent_before c.args.known) c.args.bitmap.now c.loop-number.number c.loop-number.rest.now (omega arith) in
    left_end _ _ _ (left_as _ _ _ _ _ end c.loop-number.invariant)
