use Rattle.std.proofs.Common.{◌∙◌, ◌++◌, List, ℕ, ap, subst, sym}
use Rattle.terminal_at_reader.proofs.Turning.{told_before}
use Rattle.terminal_at_reader.specs.Talk.{IsTurnOf, settlement_turn}
use Rattle.terminal_at_reader.proofs.settling.add_settlement.Goals as goal

pub returns : goal.returns
returns c = record {
  turn =
      subst (λ (t : List ℕ). IsTurnOf c.settle_one-onward.new.work t c.settle_one-onward.result (settlement_turn c.args.iso c.args.work.now.till c.args.answered c.args.text.now.items))
      (sym (c.in_ok-extend_from_slice.ensures.items ∙ ap (λ (l : List ℕ). c.args.text.now.items ++ l) c.as_slice.ensures.value))
      (told_before c.args.iso c.args.work.now.till c.args.answered c.args.text.now.items _ _ _ c.settle_one-onward.ensures.turn);
}
