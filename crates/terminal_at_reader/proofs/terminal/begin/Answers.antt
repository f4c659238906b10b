use Rattle.std.proofs.Common.{◌≡◌, ◌∙◌, ◌≤◌, ap, arith, length, refl, Some, slice_get, subst, sym}
use Rattle.std.proofs.lemmas.Option.{slice_get_read}
use Rattle.kernel.specs.BeginEnd.{HasBegun}
use Rattle.scenario_lanes.specs.Plan.{LaneData}
use Rattle.scenario_lanes.specs.declared.plan.Planned.{Planned}
use Rattle.terminal_at_reader.proofs.Turning.{has_begun}
use Rattle.terminal_at_reader.specs.Talk.{outset_of_planned}
use Rattle.terminal_at_reader.specs.Till.{TillData, till_begun}
use Rattle.terminal_at_reader.proofs.terminal.begin.Goals as goal

pub returns-clause-begun : goal.returns-clause-begun
returns-clause-begun c =
    let planned : Planned = c.index-planned.result.now in
    let seen : LaneData = record { settings = c.lane.inside.settings; purchases = c.lane.inside.purchases.items; iso = c.lane.inside.iso; durable = c.lane.inside.durable } in
    let same : seen ≡ c.args.lane.now = cc c.lane.view_is in
    let first : slice_get c.args.lane.now.purchases 0 ≡ Some planned =
    subst (λ (l : LaneData). slice_get l.purchases 0 ≡ Some planned) same
    (slice_get_read seen.purchases (length seen.purchases) 0 planned refl
    (let some = subst (λ (l : LaneData). 1 ≤ length l.purchases) (sym same) c.requires.some in omega (arith, some)) c.index-planned.ensures) in
    has_begun c.args.lane.now _ planned c.requires.rules c.requires.few first
    (subst (λ (l : LaneData). HasBegun (outset_of_planned l planned) c.begin-kernel.result) same c.begin-kernel.ensures)
    (sym c.next-waits.ensures.exact ∙ c.next-waits.ensures.told _ c.begin-kernel.ensures.stands) refl c.amount_of.ensures c.type_of.ensures
    (c.begin.ensures ∙ ap (λ (t : TillData). till_begun t) c.new-till.ensures)
