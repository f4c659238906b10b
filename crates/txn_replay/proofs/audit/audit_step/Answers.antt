use Rattle.std.proofs.Common.{◌≡◌, ◌+◌, ◌*◌, ◌-◌, ◌≤◌, List, drop, slice_get, length, Some, None, sym, ap, ◌∙◌, subst, arith}
use Rattle.std.specs.List.{flat_map}
use Rattle.std.specs.Prelude.{option_map}
use Rattle.std.proofs.lemmas.List.{length-map}
use Rattle.card_files.specs.Views.{AppData, ImageData}
use Rattle.scenario_plan.specs.Cards.{CardData}
use Rattle.scenario_plan.specs.SeenCards.{seen_card, seen_cards}
use Rattle.txn_replay.specs.Audited.{question_check}
use Rattle.txn_replay.specs.Steps.{PowersUp, app_checks, checks_from}
use Rattle.txn_replay.proofs.AuditLaws.AuditedCards.{there_apps, there_canned}
use Rattle.txn_replay.proofs.AuditLaws.AuditNumbers.{own_check, power_check, asked_check, later_check, passed_check, no_check, seen_at, seen_image, seen_canned}
use Rattle.txn_replay.proofs.Lists.{found_at}
use Rattle.txn_replay.proofs.audit.audit_step.Goals as goal

pub loop-index-preserved-in_default : goal.loop-index-preserved-in_default
loop-index-preserved-in_default c = record {
  same =
      (let here = found_at c.args.cards.now c.loop-index.index c.index-cards-index.result c.loop-index-test.true c.index-cards-index.is in
      let card : CardData = seen_card c.index-cards-index.result in
      let canned = there_canned c.index-cards-index.result.kind (sym c.in_default.ensures) in
      sym (passed_check (seen_cards c.args.cards.now) c.loop-index.index card canned.0 c.loop-index.left
      (seen_at c.args.cards.now c.loop-index.index c.index-cards-index.result here) (seen_canned c.index-cards-index.result ∙ canned.1))
      ∙ c.loop-index.invariant.same);
  within = omega (arith, c.loop-index-test.true);
}

pub returns-then-left-eq0-clause-step : goal.returns-then-left-eq0-clause-step
returns-then-left-eq0-clause-step c =
    let here = found_at c.args.cards.now c.loop-index.index c.index-cards-index.result c.loop-index-test.true c.index-cards-index.is in
    let kind = there_apps c.index-cards-index.result.kind c.in-Some.image.now (sym c.in-Some.ensures) in
    let canned : (seen_card c.index-cards-index.result).canned ≡ None = seen_canned c.index-cards-index.result ∙ kind.0 in
    let card : CardData = seen_card c.index-cards-index.result in
    sym (own_check (seen_cards c.args.cards.now) c.loop-index.index card 0 (PowersUp c.loop-index.index card)
    (seen_at c.args.cards.now c.loop-index.index c.index-cards-index.result here) (power_check c.loop-index.index card canned))
    ∙ ap (λ n. slice_get (checks_from c.loop-index.index (drop c.loop-index.index (seen_cards c.args.cards.now))) n) (sym c.if-left-eq0.true)
    ∙ c.loop-index.invariant.same

pub returns-then-left-eq0-clause-there : goal.returns-then-left-eq0-clause-there
returns-then-left-eq0-clause-there c = found_at c.args.cards.now c.loop-index.index c.index-cards-index.result c.loop-index-test.true c.index-cards-index.is

pub returns-in-Some-question_at-clause-step : goal.returns-in-Some-question_at-clause-step
returns-in-Some-question_at-clause-step c =
    let here = found_at c.args.cards.now c.loop-index.index c.index-cards-index.result c.loop-index-test.true c.index-cards-index.is in
    let kind = there_apps c.index-cards-index.result.kind c.in-Some.image.now (sym c.in-Some.ensures) in
    let canned : (seen_card c.index-cards-index.result).canned ≡ None = seen_canned c.index-cards-index.result ∙ kind.0 in
    let apps : (seen_card c.index-cards-index.result).image.apps ≡ c.apps-apps.result.now =
    ap (λ (image : ImageData). image.apps) (seen_image c.index-cards-index.result ∙ kind.1) ∙ sym c.apps-apps.ensures.apps in
    let card : CardData = seen_card c.index-cards-index.result in
    let i = c.loop-index.index in
    let asked : slice_get (flat_map (app_checks i card) card.image.apps) (c.loop-index.left - 1) ≡ Some (question_check i card c.in-Some-question_at.question) =
    ap (λ (xs : List AppData). slice_get (flat_map (app_checks i card) xs) (c.loop-index.left - 1)) apps
    ∙ sym (c.question_at.ensures.asked i card)
    ∙ ap (option_map (question_check i card)) c.in-Some-question_at.is in
    sym (own_check (seen_cards c.args.cards.now) i card c.loop-index.left (question_check i card c.in-Some-question_at.question)
    (seen_at c.args.cards.now c.loop-index.index c.index-cards-index.result here)
    (asked_check i card c.loop-index.left (question_check i card c.in-Some-question_at.question) canned (omega (arith, c.if-left-eq0.false)) asked))
    ∙ c.loop-index.invariant.same

pub returns-in-Some-question_at-clause-there : goal.returns-in-Some-question_at-clause-there
returns-in-Some-question_at-clause-there c = found_at c.args.cards.now c.loop-index.index c.index-cards-index.result c.loop-index-test.true c.index-cards-index.is

pub loop-index-preserved : goal.loop-index-preserved
loop-index-preserved c = record {
  same =
      (let here = found_at c.args.cards.now c.loop-index.index c.index-cards-index.result c.loop-index-test.true c.index-cards-index.is in
      let kind = there_apps c.index-cards-index.result.kind c.in-Some.image.now (sym c.in-Some.ensures) in
      let canned : (seen_card c.index-cards-index.result).canned ≡ None = seen_canned c.index-cards-index.result ∙ kind.0 in
      let apps : (seen_card c.index-cards-index.result).image.apps ≡ c.apps-apps.result.now =
      ap (λ (image : ImageData). image.apps) (seen_image c.index-cards-index.result ∙ kind.1) ∙ sym c.apps-apps.ensures.apps in
      let card : CardData = seen_card c.index-cards-index.result in
      let count : length c.apps-apps.result.now ≡ length card.image.apps = ap (λ (xs : List AppData). length xs) (sym apps) in
      let behind : 3 * length c.apps-apps.result.now ≤ c.loop-index.left - 1 = c.question_at.ensures.behind c.in_default-question_at.is in
      let enough : 1 + 3 * length card.image.apps ≤ c.loop-index.left = omega (arith, count, behind, c.if-left-eq0.false) in
      ap (λ n. slice_get (checks_from (c.loop-index.index + 1) (drop (c.loop-index.index + 1) (seen_cards c.args.cards.now))) (c.loop-index.left - (1 + 3 * n))) count
      ∙ sym (later_check (seen_cards c.args.cards.now) c.loop-index.index card c.loop-index.left
      (seen_at c.args.cards.now c.loop-index.index c.index-cards-index.result here) canned enough)
      ∙ c.loop-index.invariant.same);
  within = omega (arith, c.loop-index-test.true);
}

pub returns-clause-step : goal.returns-clause-step
returns-clause-step c =
    sym (no_check (seen_cards c.args.cards.now) c.loop-index.index c.loop-index.left
    (subst (λ n. n ≤ c.loop-index.index) (sym (length-map c.args.cards.now seen_card)) c.loop-index-test.false))
    ∙ c.loop-index.invariant.same
