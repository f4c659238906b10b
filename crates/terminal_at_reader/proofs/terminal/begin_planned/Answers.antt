use Rattle.std.proofs.Common.{◌≡◌, Bool, [], refl, subst, sym}
use Rattle.kernel.specs.BeginEnd.{HasBegun}
use Rattle.scenario_lanes.specs.Plan.{LaneData}
use Rattle.terminal_at_reader.proofs.Turning.{begun_paying, if_so}
use Rattle.terminal_at_reader.specs.Talk.{HasAmounts, IsTurnOf, asked_turn, outset_of_planned}
use Rattle.terminal_at_reader.specs.Till.{TillData, till_begun}
use Rattle.terminal_at_reader.proofs.terminal.begin_planned.Goals as goal

pub add_asked-requires : goal.add_asked-requires
add_asked-requires c = record {
  fresh = c.begin_again.ensures.fresh;
  log = subst (λ (t : TillData). HasAmounts t.log) (sym c.begin.ensures) c.requires.log;
}

pub returns : goal.returns
returns c =
    let seen : LaneData = record { settings = c.lane.inside.settings; purchases = c.lane.inside.purchases.items; iso = c.lane.inside.iso; durable = c.lane.inside.durable } in
    let same : seen ≡ c.args.lane.now = cc c.lane.view_is in
    let begun : HasBegun (outset_of_planned c.args.lane.now c.args.planned.now) c.begin_again.new.self =
    subst (λ (l : LaneData). HasBegun (outset_of_planned l c.args.planned.now) c.begin_again.new.self) same c.begin_again.ensures in
    record {
      turn = if_so _ _ c.add_asked.result
          (λ onward turn.
          subst (λ (i : Bool). IsTurnOf c.add_asked.new.work c.add_asked.new.text.items onward
          (asked_turn i (outset_of_planned c.args.lane.now c.args.planned.now) [] (till_begun c.args.work.now.till) c.args.text.now.items)) c.is_iso.ensures
          (subst (λ (t : TillData). IsTurnOf c.add_asked.new.work c.add_asked.new.text.items onward
          (asked_turn c.is_iso.result (outset_of_planned c.args.lane.now c.args.planned.now) [] t c.args.text.now.items)) c.begin.ensures
          (turn (outset_of_planned c.args.lane.now c.args.planned.now) []
          (begun_paying _ (outset_of_planned c.args.lane.now c.args.planned.now) begun refl c.amount_of-work.ensures c.type_of-work.ensures c.requires.purchase.amount_fits))))
          c.add_asked.ensures.turn;
    }
