use Rattle.std.proofs.Common.{◌≡◌, List, ℕ, true, codes, sym, ap, ◌∙◌}
use Rattle.std.specs.Str.{bytes_eq}
use Rattle.report_lines.specs.Pieces.{text}
use Rattle.report_lines.proofs.Telling.{tells_then}
use Rattle.exchange_words.proofs.command.tell_selected_name.Goals as goal

pub returns-then-eq : goal.returns-then-eq
returns-then-eq c =
    let name = c.args.name.now in
    let same : bytes_eq name (codes "1PAY.SYS.DDF01") ≡ true =
    sym (c.eq.ensures ∙ ap (λ (bytes : List ℕ). bytes_eq name bytes) c.as_slice.ensures) ∙ c.if-eq.true in
    rw same (tells_then _ _ _ (text name) (text (codes ", the payment system directory")) c.text.ensures.told c.text-then-eq.ensures.told)
