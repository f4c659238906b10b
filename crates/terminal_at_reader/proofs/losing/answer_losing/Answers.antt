use Rattle.std.proofs.Common.{◌≡◌, ◌∙◌, ap, List, ℕ, true, false, sym}
use Rattle.std.specs.Str.{bytes_eq}
use Rattle.terminal_at_reader.proofs.Turning.{front_amounts, if_other, lost_at_rest, lost_captured_is, lost_told, other_is, rests_turn, turn_along}
use Rattle.terminal_at_reader.specs.Talk.{lost_captured_line, lost_line}
use Rattle.terminal_at_reader.specs.Till.{till_lost, till_lost_captured}
use Rattle.terminal_at_reader.proofs.losing.answer_losing.Goals as goal

pub returns-then-eq : goal.returns-then-eq
returns-then-eq c =
    let is : bytes_eq c.args.line.now lost_line ≡ true =
    sym (c.eq.ensures ∙ ap (λ (bytes : List ℕ). bytes_eq c.args.line.now bytes) c.as_slice.ensures) ∙ c.if-eq.true in
    record {
      turn = if_other _ _ _ c.put_lost.result c.put_lost.ensures.told c.put_lost.ensures.rests
          (λ onward told rests.
          turn_along _ c.put_lost.new.text.items onward _ _ (lost_at_rest c.args.work.now.till c.args.line.now is)
          (lost_told _ c.put_lost.new.text.items onward lost_line (till_lost c.args.work.now.till) told rests
          (record {
            till_is = c.lose.ensures;
            does = c.requires.works.does;
            amounts = front_amounts c.args.work.now.till.log_before c.args.work.now.till.log c.requires.works.amounts;
          })));
    }

pub returns-then-eq-2 : goal.returns-then-eq-2
returns-then-eq-2 c =
    let isnt : bytes_eq c.args.line.now lost_line ≡ false =
    sym (c.eq.ensures ∙ ap (λ (bytes : List ℕ). bytes_eq c.args.line.now bytes) c.as_slice.ensures) ∙ c.if-eq.false in
    let is : bytes_eq c.args.line.now lost_captured_line ≡ true =
    sym (c.eq-2.ensures ∙ ap (λ (bytes : List ℕ). bytes_eq c.args.line.now bytes) c.as_slice-2.ensures) ∙ c.if-eq-2.true in
    record {
      turn = if_other _ _ _ c.put_lost-then-eq-2.result c.put_lost-then-eq-2.ensures.told c.put_lost-then-eq-2.ensures.rests
          (λ onward told rests.
          turn_along _ c.put_lost-then-eq-2.new.text.items onward _ _ (lost_captured_is c.args.work.now.till c.args.line.now isnt is)
          (lost_told _ c.put_lost-then-eq-2.new.text.items onward lost_captured_line (till_lost_captured c.args.work.now.till) told rests
          (record {
            till_is = c.lose_approval.ensures;
            does = c.requires.works.does;
            amounts = front_amounts c.args.work.now.till.log_before c.args.work.now.till.log c.requires.works.amounts;
          })));
    }

pub returns : goal.returns
returns c =
    let isnt : bytes_eq c.args.line.now lost_line ≡ false =
    sym (c.eq.ensures ∙ ap (λ (bytes : List ℕ). bytes_eq c.args.line.now bytes) c.as_slice.ensures) ∙ c.if-eq.false in
    let isnt_captured : bytes_eq c.args.line.now lost_captured_line ≡ false =
    sym (c.eq-2.ensures ∙ ap (λ (bytes : List ℕ). bytes_eq c.args.line.now bytes) c.as_slice-2.ensures) ∙ c.if-eq-2.false in
    record {
      turn = if_other _ _ _ c.put_other.result c.put_other.ensures.told c.put_other.ensures.onward
          (λ onward told rests.
          turn_along c.args.work.now c.put_other.new.text.items onward _ _ (other_is c.args.work.now.till c.args.line.now isnt isnt_captured)
          (rests_turn c.args.work.now.till c.args.work.now c.put_other.new.text.items onward c.requires.works told rests));
    }
