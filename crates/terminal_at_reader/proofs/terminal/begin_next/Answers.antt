use Rattle.std.proofs.Common.{◌≡◌, ◌∙◌, ap, List, ℕ, [], Option, None, Some, slice_get, subst, sym}
use Rattle.scenario_lanes.specs.declared.plan.Planned.{Planned}
use Rattle.terminal_at_reader.proofs.Turning.{if_other, if_so, planned_below, planned_fits, planned_is, rests_turn, turn_along}
use Rattle.terminal_at_reader.specs.Talk.{IsTurnOf, asked_turn, outset_of_planned}
use Rattle.terminal_at_reader.specs.Till.{till_begun}
use Rattle.terminal_at_reader.proofs.terminal.begin_next.Goals as goal

pub begin_planned-requires : goal.begin_planned-requires
begin_planned-requires c =
    let is : slice_get c.args.lane.now.purchases c.args.work.now.till.begun ≡ Some c.in-Some.planned.now =
    sym (c.in-Some.ensures ∙ ap (λ (n : ℕ). slice_get c.args.lane.now.purchases n) c.begun.ensures) in
    record {
      settings = c.requires.rules.settings;
      purchase = (planned_fits c.args.lane.now c.in-Some.planned.now c.args.work.now.till.begun c.requires.rules is).purchase;
      few = planned_below c.args.lane.now c.in-Some.planned.now c.args.work.now.till.begun c.requires.few is;
      log = c.requires.works.amounts;
    }

pub returns-in-Some : goal.returns-in-Some
returns-in-Some c =
    let is : slice_get c.args.lane.now.purchases c.args.work.now.till.begun ≡ Some c.in-Some.planned.now =
    sym (c.in-Some.ensures ∙ ap (λ (n : ℕ). slice_get c.args.lane.now.purchases n) c.begun.ensures) in
    record {
      turn = if_so _ _ c.begin_planned.result
          (λ onward turn.
          turn_along c.begin_planned.new.work c.begin_planned.new.text.items onward _ _ (planned_is c.args.lane.now c.args.work.now.till (Some c.in-Some.planned.now) is)
          (subst (λ (t : List ℕ). IsTurnOf c.begin_planned.new.work c.begin_planned.new.text.items onward
          (asked_turn c.args.lane.now.iso (outset_of_planned c.args.lane.now c.in-Some.planned.now) [] (till_begun c.args.work.now.till) t))
          c.requires.empty turn))
          c.begin_planned.ensures.turn;
    }

pub returns-in-None : goal.returns-in-None
returns-in-None c =
    let none : Option Planned = None in
    let is : slice_get c.args.lane.now.purchases c.args.work.now.till.begun ≡ none =
    sym (c.in-None.ensures ∙ ap (λ (n : ℕ). slice_get c.args.lane.now.purchases n) c.begun.ensures) in
    record {
      turn = if_other _ _ _ c.put_other.result c.put_other.ensures.told c.put_other.ensures.onward
          (λ onward told rests.
          turn_along c.args.work.now c.put_other.new.text.items onward _ _ (planned_is c.args.lane.now c.args.work.now.till none is)
          (rests_turn c.args.work.now.till c.args.work.now c.put_other.new.text.items onward c.requires.works told rests));
    }
