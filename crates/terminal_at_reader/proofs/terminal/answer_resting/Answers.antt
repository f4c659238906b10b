use Rattle.std.proofs.Common.{◌≡◌, ◌∙◌, ap, Bool, List, ℕ, Option, [], true, false, subst, sym}
use Rattle.std.specs.Str.{bytes_eq}
use Rattle.terminal_at_reader.proofs.Turning.{if_other, if_so, losing_is, next_is, settle_is, turn_along, why_at_rest, why_told}
use Rattle.trace_check.specs.QuestionText.{question_text}
use Rattle.terminal_at_reader.specs.Talk.{IsTurnOf, Rests, next_line, settle_line, settlement_turn, why_line}
use Rattle.trace_check.specs.declared.question.Question.{Question}
use Rattle.terminal_at_reader.proofs.terminal.answer_resting.Goals as goal

pub returns-then-eq : goal.returns-then-eq
returns-then-eq c =
    let is : bytes_eq c.args.line.now next_line ≡ true =
    sym (c.eq.ensures ∙ ap (λ (bytes : List ℕ). bytes_eq c.args.line.now bytes) c.as_slice.ensures) ∙ c.if-eq.true in
    record {
      turn = if_so _ _ c.begin_next.result
          (λ onward turn.
          turn_along c.begin_next.new.work c.begin_next.new.text.items onward _ _ (next_is c.args.lane.now c.args.work.now.till c.args.line.now is) turn)
          c.begin_next.ensures.turn;
    }

pub returns-then-eq-2 : goal.returns-then-eq-2
returns-then-eq-2 c =
    let isnt : bytes_eq c.args.line.now next_line ≡ false =
    sym (c.eq.ensures ∙ ap (λ (bytes : List ℕ). bytes_eq c.args.line.now bytes) c.as_slice.ensures) ∙ c.if-eq.false in
    let is : bytes_eq c.args.line.now settle_line ≡ true =
    sym (c.eq-2.ensures ∙ ap (λ (bytes : List ℕ). bytes_eq c.args.line.now bytes) c.as_slice-2.ensures) ∙ c.if-eq-2.true in
    record {
      turn = if_so _ _ c.add_settlement.result
          (λ onward turn.
          turn_along c.add_settlement.new.work c.add_settlement.new.text.items onward _ _ (settle_is c.args.lane.now c.args.work.now.till c.args.line.now isnt is)
          (subst (λ (i : Bool). IsTurnOf c.add_settlement.new.work c.add_settlement.new.text.items onward (settlement_turn i c.args.work.now.till 0 [])) c.is_iso.ensures
          (subst (λ (t : List ℕ). IsTurnOf c.add_settlement.new.work c.add_settlement.new.text.items onward (settlement_turn c.is_iso.result c.args.work.now.till 0 t)) c.clear.ensures.items turn)))
          c.add_settlement.ensures.turn;
    }

pub returns-then-eq-3 : goal.returns-then-eq-3
returns-then-eq-3 c =
    let isnt : bytes_eq c.args.line.now next_line ≡ false =
    sym (c.eq.ensures ∙ ap (λ (bytes : List ℕ). bytes_eq c.args.line.now bytes) c.as_slice.ensures) ∙ c.if-eq.false in
    let isnt_settle : bytes_eq c.args.line.now settle_line ≡ false =
    sym (c.eq-2.ensures ∙ ap (λ (bytes : List ℕ). bytes_eq c.args.line.now bytes) c.as_slice-2.ensures) ∙ c.if-eq-2.false in
    let is : bytes_eq c.args.line.now why_line ≡ true =
    sym (c.eq-3.ensures ∙ ap (λ (bytes : List ℕ). bytes_eq c.args.line.now bytes) c.as_slice-3.ensures) ∙ c.if-eq-3.true in
    record {
      turn = if_other _ _ _ c.put_why.result c.put_why.ensures.told c.put_why.ensures.onward
          (λ onward told rests.
          turn_along c.args.work.now c.put_why.new.text.items onward _ _ (why_at_rest c.args.lane.now c.args.work.now.till c.args.line.now isnt isnt_settle is)
          (why_told c.args.work.now c.put_why.new.text.items onward _ Rests c.args.work.now.till c.args.work.now.till.question
          (told ∙ ap (λ (q : Option Question). question_text q) c.question.ensures) rests c.requires.works));
    }

pub returns : goal.returns
returns c =
    let isnt : bytes_eq c.args.line.now next_line ≡ false =
    sym (c.eq.ensures ∙ ap (λ (bytes : List ℕ). bytes_eq c.args.line.now bytes) c.as_slice.ensures) ∙ c.if-eq.false in
    let isnt_settle : bytes_eq c.args.line.now settle_line ≡ false =
    sym (c.eq-2.ensures ∙ ap (λ (bytes : List ℕ). bytes_eq c.args.line.now bytes) c.as_slice-2.ensures) ∙ c.if-eq-2.false in
    let unasked : bytes_eq c.args.line.now why_line ≡ false =
    sym (c.eq-3.ensures ∙ ap (λ (bytes : List ℕ). bytes_eq c.args.line.now bytes) c.as_slice-3.ensures) ∙ c.if-eq-3.false in
    record {
      turn = if_so _ _ c.answer_losing.result
          (λ onward turn.
          turn_along c.answer_losing.new.work c.answer_losing.new.text.items onward _ _ (losing_is c.args.lane.now c.args.work.now.till c.args.line.now isnt isnt_settle unasked) turn)
          c.answer_losing.ensures.turn;
    }
