use Rattle.std.proofs.Common.{◌≡◌, ◌∙◌, ◌+◌, ℕ, List, Option, None, Some, true, false, ap, refl, subst, sym}
use Rattle.std.specs.Prelude.{slice_get}
use Rattle.std.specs.Str.{bytes_eq}
use Rattle.terminal_at_reader.proofs.Turning.{if_other, if_so, replied, stuck_turn, turn_along, wanted_again, why_asked, why_told}
use Rattle.terminal_at_reader.specs.Hearing.{fault_line}
use Rattle.terminal_at_reader.specs.Settlement.{settlement_unread}
use Rattle.trace_check.specs.QuestionText.{question_text}
use Rattle.terminal_at_reader.specs.Talk.{IsTurnOf, Settles, settlement_turn, want_line, why_line}
use Rattle.trace_check.specs.declared.question.Question.{Question}
use Rattle.terminal_at_reader.proofs.settling.answer_settling.Goals as goal

pub returns-then-eq : goal.returns-then-eq
returns-then-eq c =
    let is : bytes_eq c.args.line.now want_line ≡ true =
    sym (c.eq.ensures ∙ ap (λ (bytes : List ℕ). bytes_eq c.args.line.now bytes) c.as_slice.ensures) ∙ c.if-eq.true in
    record {
      turn = if_so _ _ c.add_settlement.result
          (λ onward turn.
          turn_along c.add_settlement.new.work c.add_settlement.new.text.items onward _ _ (wanted_again c.args.iso c.args.work.now.till c.args.answered c.args.line.now is)
          (subst (λ (t : List ℕ). IsTurnOf c.add_settlement.new.work c.add_settlement.new.text.items onward (settlement_turn c.args.iso c.args.work.now.till c.args.answered t))
          c.clear.ensures.items turn))
          c.add_settlement.ensures.turn;
    }

pub returns-then-eq-2 : goal.returns-then-eq-2
returns-then-eq-2 c =
    let isnt : bytes_eq c.args.line.now want_line ≡ false =
    sym (c.eq.ensures ∙ ap (λ (bytes : List ℕ). bytes_eq c.args.line.now bytes) c.as_slice.ensures) ∙ c.if-eq.false in
    let is : bytes_eq c.args.line.now why_line ≡ true =
    sym (c.eq-2.ensures ∙ ap (λ (bytes : List ℕ). bytes_eq c.args.line.now bytes) c.as_slice-2.ensures) ∙ c.if-eq-2.true in
    record {
      turn = if_other _ _ _ c.put_why.result c.put_why.ensures.told c.put_why.ensures.onward
          (λ onward told awaits.
          turn_along c.args.work.now c.put_why.new.text.items onward _ _ (why_asked c.args.iso c.args.work.now.till c.args.answered c.args.line.now isnt is)
          (why_told c.args.work.now c.put_why.new.text.items onward _ (Settles c.args.answered) c.args.work.now.till c.args.work.now.till.question
          (told ∙ ap (λ (q : Option Question). question_text q) c.question.ensures) awaits
          (record { till_is = refl; does = c.requires.settles; amounts = c.requires.log })));
    }

pub returns-in_default : goal.returns-in_default
returns-in_default c =
    let isnt : bytes_eq c.args.line.now want_line ≡ false =
    sym (c.eq.ensures ∙ ap (λ (bytes : List ℕ). bytes_eq c.args.line.now bytes) c.as_slice.ensures) ∙ c.if-eq.false in
    let unasked : bytes_eq c.args.line.now why_line ≡ false =
    sym (c.eq-2.ensures ∙ ap (λ (bytes : List ℕ). bytes_eq c.args.line.now bytes) c.as_slice-2.ensures) ∙ c.if-eq-2.false in
    record {
      turn = if_other _ _ _ c.put_other.result c.put_other.ensures.told c.put_other.ensures.onward
          (λ onward told stuck.
          turn_along c.args.work.now c.put_other.new.text.items onward _ _
          (replied c.args.iso c.args.work.now.till c.args.answered c.args.line.now None isnt unasked (sym c.in_default.is ∙ c.in_ok-reply.ensures))
          (stuck_turn c.args.work.now c.put_other.new.text.items onward (Settles c.args.answered) c.args.work.now.till told stuck));
    }

pub returns : goal.returns
returns c =
    let isnt : bytes_eq c.args.line.now want_line ≡ false =
    sym (c.eq.ensures ∙ ap (λ (bytes : List ℕ). bytes_eq c.args.line.now bytes) c.as_slice.ensures) ∙ c.if-eq.false in
    let unasked : bytes_eq c.args.line.now why_line ≡ false =
    sym (c.eq-2.ensures ∙ ap (λ (bytes : List ℕ). bytes_eq c.args.line.now bytes) c.as_slice-2.ensures) ∙ c.if-eq-2.false in
    let told : c.put_fault.new.text.items ≡ fault_line (settlement_unread c.args.iso (slice_get c.args.work.now.till.captures c.args.answered) c.in-Some.reply) =
    c.in_ok-put_fault.ensures ∙ ap fault_line
    (c.unread-fault.ensures
    ∙ ap (λ (m : Option (List ℕ)). settlement_unread c.args.iso m c.as_slice-3.result.now) c.captured.ensures
    ∙ ap (λ (r : List ℕ). settlement_unread c.args.iso (slice_get c.args.work.now.till.captures c.args.answered) r) c.as_slice-3.ensures) in
    record {
      turn = if_so _ _ c.add_settlement-2.result
          (λ onward turn.
          turn_along c.add_settlement-2.new.work c.add_settlement-2.new.text.items onward _ _
          (replied c.args.iso c.args.work.now.till c.args.answered c.args.line.now (Some c.in-Some.reply) isnt unasked (sym c.in-Some.is ∙ c.in_ok-reply.ensures))
          (subst (λ (t : List ℕ). IsTurnOf c.add_settlement-2.new.work c.add_settlement-2.new.text.items onward (settlement_turn c.args.iso c.args.work.now.till (c.args.answered + 1) t)) told turn))
          c.add_settlement-2.ensures.turn;
    }
