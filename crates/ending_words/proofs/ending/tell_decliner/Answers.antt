use Rattle.std.proofs.Common.{◌≡◌, [], Bool, true, ◌&&◌, codes, sym, ap, subst, ◌∙◌}
use Rattle.std.specs.Prelude.{if◌then◌else◌}
use Rattle.report_lines.specs.Pieces.{Tells, text}
use Rattle.ending_words.specs.Endings.{is_approving}
use Rattle.ending_words.proofs.ending.tell_decliner.Goals as goal

pub returns-then-is_approving : goal.returns-then-is_approving
returns-then-is_approving c =
    let approves = is_approving c.args.arc.now in
    let holds : (c.args.declined && approves) ≡ true =
    ap (λ (d : Bool). d && approves) c.if-declined.true ∙ sym c.is_approving.ensures ∙ c.if-is_approving.true in
    subst (λ (b : Bool). Tells c.args.out.now c.text.new.self (if b then text (codes "; the card declined") else [])) (sym holds) c.text.ensures.told
