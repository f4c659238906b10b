use Rattle.std.proofs.Common.{◌≡◌, List, ℕ, true, nat_le, length, take, ap, subst, ◌∙◌, arith}
use Rattle.std.proofs.lemmas.Bool.Decides.{nat_tests}
use Rattle.report_lines.specs.Pieces.{Piece, Tells}
use Rattle.message_words.specs.Iso.{iso_fields_words}
use Rattle.message_words.specs.Objects.{sent_before}
use Rattle.message_words.proofs.iso.tell_rest.Goals as goal

pub returns-in-Some : goal.returns-in-Some
returns-in-Some c =
    let rest = c.args.rest.now in
    let words = iso_fields_words c.args.style.now (sent_before c.args.known) in
    let cut = c.in-Some.ensures.cases in
    let enough = cut.0 in
    let long : nat_le 8 (length rest) ≡ true = grind (arith, nat_tests) in
    let same = ap (λ (bitmap : List ℕ). words bitmap c.in-Some.fields.now) cut.1 ∙ ap (λ (fields : List ℕ). words (take 8 rest) fields) cut.2 in
    rw long (subst (λ (w : List Piece). Tells c.args.out.now c.tell_message_fields.new.out w) same c.tell_message_fields.ensures)
