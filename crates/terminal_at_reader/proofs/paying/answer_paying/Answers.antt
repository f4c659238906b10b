use Rattle.std.proofs.Common.{◌≡◌, ◌∙◌, ℕ, List, Option, true, false, [], ◌∷◌, ◌++◌, ap, refl, rules, subst, sym}
use Rattle.std.specs.Str.{bytes_eq}
use Rattle.trace_check.proofs.Spelling.{text_is}
use Rattle.terminal_at_reader.proofs.Turning.{accepted, asked_why, broken_off, decided_is, if_other, if_so, is_taken, none_read, paying_more, refused, taken_as, wanted}
use Rattle.terminal_at_reader.specs.Hearing.{fault_line, unread}
use Rattle.trace_check.specs.QuestionText.{question_text}
use Rattle.terminal_at_reader.specs.Talk.{HasAmounts, IsTurnOf, asked_turn, lost_line, want_line, why_line}
use Rattle.trace_check.specs.declared.question.Question.{Question}
use Rattle.terminal_at_reader.proofs.paying.answer_paying.Goals as goal

pub returns-then-eq : goal.returns-then-eq
returns-then-eq c =
    let is : bytes_eq c.args.line.now want_line ≡ true =
    sym (c.eq.ensures ∙ ap (λ (bytes : List ℕ). bytes_eq c.args.line.now bytes) c.as_slice.ensures) ∙ c.if-eq.true in
    record {
      turn = if_so _ _ c.add_asked.result
          (λ onward turn outset replies paying.
          wanted c.args.iso outset replies c.args.work.now.till c.args.line.now is c.add_asked.new.work c.add_asked.new.text.items onward
          (subst (λ (t : List ℕ). IsTurnOf c.add_asked.new.work c.add_asked.new.text.items onward (asked_turn c.args.iso outset replies c.args.work.now.till t))
          c.clear.ensures.items (turn outset replies paying)))
          c.add_asked.ensures.turn;
    }

pub returns-then-eq-2 : goal.returns-then-eq-2
returns-then-eq-2 c =
    let isnt : bytes_eq c.args.line.now want_line ≡ false =
    sym (c.eq.ensures ∙ ap (λ (bytes : List ℕ). bytes_eq c.args.line.now bytes) c.as_slice.ensures) ∙ c.if-eq.false in
    let is : bytes_eq c.args.line.now why_line ≡ true =
    sym (c.eq-2.ensures ∙ ap (λ (bytes : List ℕ). bytes_eq c.args.line.now bytes) c.as_slice-2.ensures) ∙ c.if-eq-2.true in
    record {
      turn = if_other _ _ _ c.put_why.result c.put_why.ensures.told c.put_why.ensures.onward
          (λ onward told awaits outset replies paying.
          asked_why c.args.iso outset replies c.args.work.now.till c.args.line.now isnt is c.args.work.now c.put_why.new.text.items onward
          (told ∙ ap (λ (q : Option Question). question_text q)
          (decided_is c.args.work.now outset replies c.last_question-question.result paying (c.last_question-question.ensures replies paying.live.stands)))
          awaits (record { till_is = refl; does = paying; amounts = c.requires.log }));
    }

pub returns-then-eq-3 : goal.returns-then-eq-3
returns-then-eq-3 c =
    let isnt : bytes_eq c.args.line.now want_line ≡ false =
    sym (c.eq.ensures ∙ ap (λ (bytes : List ℕ). bytes_eq c.args.line.now bytes) c.as_slice.ensures) ∙ c.if-eq.false in
    let unasked : bytes_eq c.args.line.now why_line ≡ false =
    sym (c.eq-2.ensures ∙ ap (λ (bytes : List ℕ). bytes_eq c.args.line.now bytes) c.as_slice-2.ensures) ∙ c.if-eq-2.false in
    let is : bytes_eq c.args.line.now lost_line ≡ true =
    sym (c.eq-3.ensures ∙ ap (λ (bytes : List ℕ). bytes_eq c.args.line.now bytes) c.as_slice-3.ensures) ∙ c.if-eq-3.true in
    record {
      turn = if_so _ _ c.break_off.result
          (λ onward turn outset replies paying.
          broken_off c.args.iso outset replies c.args.work.now.till c.args.line.now isnt unasked is c.break_off.new.work c.break_off.new.text.items onward turn)
          c.break_off.ensures.turn;
    }

pub returns-in_default : goal.returns-in_default
returns-in_default c =
    let isnt : bytes_eq c.args.line.now want_line ≡ false =
    sym (c.eq.ensures ∙ ap (λ (bytes : List ℕ). bytes_eq c.args.line.now bytes) c.as_slice.ensures) ∙ c.if-eq.false in
    let unasked : bytes_eq c.args.line.now why_line ≡ false =
    sym (c.eq-2.ensures ∙ ap (λ (bytes : List ℕ). bytes_eq c.args.line.now bytes) c.as_slice-2.ensures) ∙ c.if-eq-2.false in
    let unlost : bytes_eq c.args.line.now lost_line ≡ false =
    sym (c.eq-3.ensures ∙ ap (λ (bytes : List ℕ). bytes_eq c.args.line.now bytes) c.as_slice-3.ensures) ∙ c.if-eq-3.false in
    record {
      turn = if_other _ _ _ c.put_other.result c.put_other.ensures.told c.put_other.ensures.onward
          (λ onward told stuck outset replies paying.
          none_read c.args.iso outset replies c.args.work.now.till c.args.line.now isnt unasked unlost (sym (sym c.in_default.is ∙ c.in_ok-said.ensures))
          c.args.work.now c.put_other.new.text.items onward told stuck);
    }

pub hear-requires : goal.hear-requires
hear-requires c = (text_is c.args.line.now c.in-Some.said (sym (sym c.in-Some.is ∙ c.in_ok-said.ensures))).1

pub take_with_log-requires : goal.take_with_log-requires
take_with_log-requires c = record {
  fresh = c.requires.fresh;
  log = subst HasAmounts (sym c.log.ensures) c.requires.log;
}

pub returns-then-not-take_with_log : goal.returns-then-not-take_with_log
returns-then-not-take_with_log c =
    let isnt : bytes_eq c.args.line.now want_line ≡ false =
    sym (c.eq.ensures ∙ ap (λ (bytes : List ℕ). bytes_eq c.args.line.now bytes) c.as_slice.ensures) ∙ c.if-eq.false in
    let unasked : bytes_eq c.args.line.now why_line ≡ false =
    sym (c.eq-2.ensures ∙ ap (λ (bytes : List ℕ). bytes_eq c.args.line.now bytes) c.as_slice-2.ensures) ∙ c.if-eq-2.false in
    let unlost : bytes_eq c.args.line.now lost_line ≡ false =
    sym (c.eq-3.ensures ∙ ap (λ (bytes : List ℕ). bytes_eq c.args.line.now bytes) c.as_slice-3.ensures) ∙ c.if-eq-3.false in
    let not_taken : c.take_with_log.result ≡ false = search rules in
    record {
      turn = if_other _ _ _ c.put_other-then-not-take_with_log.result c.put_other-then-not-take_with_log.ensures.told c.put_other-then-not-take_with_log.ensures.onward
          (λ onward told stuck outset replies paying.
          refused c.args.iso outset replies c.args.work.now.till c.args.line.now isnt unasked unlost c.in-Some.said (sym (sym c.in-Some.is ∙ c.in_ok-said.ensures))
          c.take_with_log.new.kernel c.in_ok-heard.heard.entry c.in_ok-heard.ensures.entry
          (taken_as c.args.work.now outset replies paying c.take_with_log.new.kernel c.in_ok-heard.heard.entry c.log.result.now c.args.work.now.till.log c.log.ensures
          c.take_with_log.result false not_taken (c.take_with_log.ensures.taken replies paying.live.stands))
          _ c.put_other-then-not-take_with_log.new.text.items onward told stuck);
    }

pub returns : goal.returns
returns c =
    let isnt : bytes_eq c.args.line.now want_line ≡ false =
    sym (c.eq.ensures ∙ ap (λ (bytes : List ℕ). bytes_eq c.args.line.now bytes) c.as_slice.ensures) ∙ c.if-eq.false in
    let unasked : bytes_eq c.args.line.now why_line ≡ false =
    sym (c.eq-2.ensures ∙ ap (λ (bytes : List ℕ). bytes_eq c.args.line.now bytes) c.as_slice-2.ensures) ∙ c.if-eq-2.false in
    let unlost : bytes_eq c.args.line.now lost_line ≡ false =
    sym (c.eq-3.ensures ∙ ap (λ (bytes : List ℕ). bytes_eq c.args.line.now bytes) c.as_slice-3.ensures) ∙ c.if-eq-3.false in
    let was_taken : c.take_with_log.result ≡ true = search rules in
    let told : c.put_fault.new.text.items ≡ fault_line (unread c.args.iso c.in-Some.said) = c.in_ok-put_fault.ensures ∙ ap fault_line c.in_ok-heard.ensures.fault in
    record {
      turn = if_so _ _ c.add_asked-2.result
          (λ onward turn outset replies paying.
          let now = accepted c.args.iso outset replies c.args.work.now.till c.args.line.now isnt unasked unlost c.in-Some.said (sym (sym c.in-Some.is ∙ c.in_ok-said.ensures))
          c.take_with_log.new.kernel c.in_ok-heard.heard.entry c.in_ok-heard.ensures.entry
          (taken_as c.args.work.now outset replies paying c.take_with_log.new.kernel c.in_ok-heard.heard.entry c.log.result.now c.args.work.now.till.log c.log.ensures
          c.take_with_log.result true was_taken (c.take_with_log.ensures.taken replies paying.live.stands)) in
          is_taken c.args.iso outset replies c.args.work.now.till c.args.line.now isnt unasked unlost c.in-Some.said (sym (sym c.in-Some.is ∙ c.in_ok-said.ensures))
          c.take_with_log.new.kernel c.in_ok-heard.heard.entry c.in_ok-heard.ensures.entry now c.add_asked-2.new.work c.add_asked-2.new.text.items onward
          (subst (λ (t : List ℕ). IsTurnOf c.add_asked-2.new.work c.add_asked-2.new.text.items onward (asked_turn c.args.iso outset (replies ++ now.reply ∷ []) c.args.work.now.till t)) told
          (turn outset (replies ++ now.reply ∷ [])
          (paying_more c.args.work.now _ outset replies (replies ++ now.reply ∷ []) paying refl refl refl c.take_with_log.ensures.outset c.take_with_log.ensures.fresh now.stands))))
          c.add_asked-2.ensures.turn;
    }
