use Rattle.std.proofs.Common.{List, ap, ◌∙◌}
use Rattle.scenario_plan.specs.Plan.{ScenarioData}
use Rattle.scenario_plan.specs.SeenCards.{seen_card, seen_cards}
use Rattle.scenario_plan.specs.declared.plan.NamedCard.{NamedCard}
use Rattle.txn_replay.proofs.AuditLaws.AuditAtHand.{none_there, none_goes, check_there, check_few, name_short, at_rest, run_card_of, asked_on, check_goes, check_whole, next_asked}
use Rattle.txn_replay.proofs.world.World.audit.Goals as goal

pub returns-in_default-clause-past : goal.returns-in_default-clause-past
returns-in_default-clause-past g c = λ one.
    none_there _ _ c.self.invariant.0 c.self.view_is c.as_slice.result.now
    (ap (λ (xs : List NamedCard). seen_cards xs) c.as_slice.ensures.value ∙ ap (λ (s : ScenarioData). s.cards) c.scenario.view_is) c.args.number c.requires.done c.in_default.ensures.step

pub returns-in_default-clause-goes : goal.returns-in_default-clause-goes
returns-in_default-clause-goes g c = λ w stands.
    none_goes _ _ c.self.invariant.0 c.self.view_is c.as_slice.result.now
    (ap (λ (xs : List NamedCard). seen_cards xs) c.as_slice.ensures.value ∙ ap (λ (s : ScenarioData). s.cards) c.scenario.view_is) c.args.number c.requires.done c.in_default.ensures.step
    w stands c.clear.new.self.items c.clear.ensures

pub carry_out-requires-clause-rests : goal.carry_out-requires-clause-rests
carry_out-requires-clause-rests g c =
    at_rest _ _ c.self.invariant.0 c.self.view_is c.as_slice.result.now
    (ap (λ (xs : List NamedCard). seen_cards xs) c.as_slice.ensures.value ∙ ap (λ (s : ScenarioData). s.cards) c.scenario.view_is) c.args.number c.requires.done
    c.in-Some.step c.in-Some.ensures.step c.in-Some.ensures.there c.index_mut.result.now c.index_mut.ensures.value

pub carry_out-requires-clause-is : goal.carry_out-requires-clause-is
carry_out-requires-clause-is g c =
    run_card_of _ _ c.self.invariant.0 c.self.view_is c.as_slice.result.now
    (ap (λ (xs : List NamedCard). seen_cards xs) c.as_slice.ensures.value ∙ ap (λ (s : ScenarioData). s.cards) c.scenario.view_is) c.args.number c.requires.done
    c.in-Some.step c.in-Some.ensures.step c.in-Some.ensures.there c.index_mut.result.now c.index_mut.ensures.value

pub carry_out-requires-clause-on : goal.carry_out-requires-clause-on
carry_out-requires-clause-on g c =
    asked_on _ _ c.self.invariant.0 c.self.view_is c.as_slice.result.now
    (ap (λ (xs : List NamedCard). seen_cards xs) c.as_slice.ensures.value ∙ ap (λ (s : ScenarioData). s.cards) c.scenario.view_is) c.args.number c.requires.done
    c.in-Some.step c.in-Some.ensures.step c.in-Some.ensures.there c.index_mut.result.now c.index_mut.ensures.value c.requires.next

pub carry_out-requires-clause-name : goal.carry_out-requires-clause-name
unfolding seen_card
carry_out-requires-clause-name g c =
    name_short _ _ c.self.invariant.0 c.self.view_is c.as_slice.result.now
    (ap (λ (xs : List NamedCard). seen_cards xs) c.as_slice.ensures.value ∙ ap (λ (s : ScenarioData). s.cards) c.scenario.view_is) c.args.number c.requires.done
    c.in-Some.step c.in-Some.ensures.step c.in-Some.ensures.there

pub invariant_of-self : goal.invariant_of-self
invariant_of-self g c = (
  check_whole _ _ c.self.invariant.0 c.self.view_is c.as_slice.result.now
      (ap (λ (xs : List NamedCard). seen_cards xs) c.as_slice.ensures.value ∙ ap (λ (s : ScenarioData). s.cards) c.scenario.view_is) c.args.number c.requires.done
      c.in-Some.step c.in-Some.ensures.step c.in-Some.ensures.there c.index_mut.result.now c.index_mut.ensures.value
      c.carry_out.new.run_card c.carry_out.new.lines.items c.carry_out.ensures.is c.carry_out.ensures.losses c.carry_out.ensures.checked,
  c.self.invariant.1,
)

pub returns-clause-goes : goal.returns-clause-goes
returns-clause-goes g c = λ w stands.
    check_goes _ _ c.self.invariant.0 c.self.view_is c.as_slice.result.now
    (ap (λ (xs : List NamedCard). seen_cards xs) c.as_slice.ensures.value ∙ ap (λ (s : ScenarioData). s.cards) c.scenario.view_is) c.args.number c.requires.done
    c.in-Some.step c.in-Some.ensures.step c.in-Some.ensures.there c.index_mut.result.now c.index_mut.ensures.value
    c.carry_out.new.run_card c.carry_out.new.lines.items c.carry_out.ensures.is c.carry_out.ensures.losses c.carry_out.ensures.checked w stands

pub returns-clause-there : goal.returns-clause-there
returns-clause-there g c = λ one. (
  check_few _ _ c.self.invariant.0 c.self.view_is c.as_slice.result.now
      (ap (λ (xs : List NamedCard). seen_cards xs) c.as_slice.ensures.value ∙ ap (λ (s : ScenarioData). s.cards) c.scenario.view_is) c.args.number c.requires.done
      c.in-Some.step c.in-Some.ensures.step c.in-Some.ensures.there,
  check_there _ _ c.self.invariant.0 c.self.view_is c.as_slice.result.now
      (ap (λ (xs : List NamedCard). seen_cards xs) c.as_slice.ensures.value ∙ ap (λ (s : ScenarioData). s.cards) c.scenario.view_is) c.args.number c.requires.done
      c.in-Some.step c.in-Some.ensures.step c.in-Some.ensures.there,
)

pub returns-clause-next : goal.returns-clause-next
returns-clause-next g c = λ one.
    next_asked _ _ c.self.invariant.0 c.self.view_is c.as_slice.result.now
    (ap (λ (xs : List NamedCard). seen_cards xs) c.as_slice.ensures.value ∙ ap (λ (s : ScenarioData). s.cards) c.scenario.view_is) c.args.number c.requires.done
    c.in-Some.step c.in-Some.ensures.step c.in-Some.ensures.there c.index_mut.result.now c.index_mut.ensures.value
    c.carry_out.new.run_card c.carry_out.new.lines.items c.carry_out.ensures.is c.carry_out.ensures.losses c.carry_out.ensures.checked
    c.carry_out.ensures.on
