use Rattle.std.proofs.Common.{◌≡◌, ℕ, List, [], ◌∷◌, Some, None, sym, ap, ◌∙◌, subst}
use Rattle.std.proofs.lemmas.Bool.{both_ways}
use Rattle.card_app.specs.SeenIcc.{IccAnswered}
use Rattle.report_text.specs.declared.line.Line.TheVariants.{AuditAsk, AuditAnswer}
use Rattle.scenario_plan.specs.SeenCards.{seen_card}
use Rattle.txn_replay.specs.Audited.{question_command}
use Rattle.txn_replay.proofs.AuditLaws.AuditedCards.{never_cut, asked_so, on_from}
use Rattle.txn_replay.proofs.audit.ask.Goals as goal

pub unreachable-requires : goal.unreachable-requires
unreachable-requires g c =
    let row = c.requires.rests.0 in
    let on = on_from c.args.icc.now row c.requires.rests.1 (λ kept pending off.
    both_ways c.is_on.result (c.is_on.ensures.off kept pending off) (c.is_on.ensures.exact ∙ c.requires.on)) in
    let cut = c.in_default.ensures.cut row.session row.kept None row.made on.0 in
    let none : None ≡ Some cut.0 = sym (never_cut row.made _) ∙ cut.1.cut in cc

pub returns-clause-asked : goal.returns-clause-asked
unfolding seen_card
returns-clause-asked g c = λ row rests same.
    let stands = on_from c.args.icc.now row rests (λ kept pending off.
    both_ways c.is_on.result (c.is_on.ensures.off kept pending off) (c.is_on.ensures.exact ∙ c.requires.on)) in
    let sent : c.as_slice.result.now ≡ question_command c.args.question = c.as_slice.ensures.value ∙ c.write_question.ensures in
    let said : IccAnswered c.args.icc.now c.process.new.self row.session row.kept None row.made (question_command c.args.question) c.process.new.out.items =
    subst (λ (bytes : List ℕ). IccAnswered c.args.icc.now c.process.new.self row.session row.kept None row.made bytes c.process.new.out.items) sent
    (c.in-Ok.ensures.answered row.session row.kept None row.made stands.0) in
    asked_so c.args.icc.now c.process.new.self (seen_card c.args.card.now) row (question_command c.args.question) c.process.new.out.items c.tell_audit.new.lines.items same stands.1 said
    (c.tell_audit.ensures
    ∙ ap (λ (name : List ℕ). AuditAsk (record { items = name }) (record { items = c.as_slice-3.result.now })
    ∷ AuditAnswer (record { items = name }) (record { items = c.as_slice-4.result.now }) ∷ []) c.as_slice-2.ensures.value
    ∙ ap (λ (bytes : List ℕ). AuditAsk (record { items = c.args.card.now.name.items }) (record { items = bytes })
    ∷ AuditAnswer (record { items = c.args.card.now.name.items }) (record { items = c.as_slice-4.result.now }) ∷ []) (c.as_slice-3.ensures.value ∙ c.write_question.ensures)
    ∙ ap (λ (bytes : List ℕ). AuditAsk (record { items = c.args.card.now.name.items }) (record { items = question_command c.args.question })
    ∷ AuditAnswer (record { items = c.args.card.now.name.items }) (record { items = bytes }) ∷ []) c.as_slice-4.ensures.value)
