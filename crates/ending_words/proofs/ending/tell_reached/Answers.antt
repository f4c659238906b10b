use Rattle.std.proofs.Common.{ℕ, sym, subst}
use Rattle.report_lines.specs.Pieces.{Tells}
use Rattle.ending_words.specs.Endings.{reached_words}
use Rattle.ending_words.proofs.ending.tell_reached.Goals as goal

pub returns-then-cvm-eq0 : goal.returns-then-cvm-eq0
returns-then-cvm-eq0 c =
    subst (λ (n : ℕ). Tells c.args.out.now c.text.new.self (reached_words n)) (sym c.if-cvm-eq0.true) c.text.ensures.told
