-- The list that is found is that of the row, with the lost call or without it.
use Rattle.std.proofs.Common.{true, ap, sym, subst, ◌∙◌}
use Rattle.emv_ports.specs.Memory.{Memory}
use Rattle.capture_store.specs.Calls.{list_found}
use Rattle.capture_store.specs.ListPages.{MayStandForList}
use Rattle.capture_store.proofs.Finding.{may_one, one_may, found_one}
use Rattle.capture_store.proofs.Rowing.{opened_on, off_there}
use Rattle.capture_store.proofs.lane_store.LaneStore.open.Goals as goal

pub open-requires-clause-stands : goal.open-requires-clause-stands
open-requires-clause-stands g c =
    let row = c.requires.off.0 in
    let off = off_there c.args.self.now c.in-Some.capture_list row (sym c.self.view_is ∙ c.in-Some.is) c.requires.off.1 in
    let may = subst (λ (m : Memory). MayStandForList m.cells row.list row.lost) (sym c.plan.ensures) off.may in
    (row.list, list_found row.list row.lost true, may_one row.list c.plan.new.self.memory.cells row.lost may)

pub returns-clause-opened : goal.returns-clause-opened
returns-clause-opened g c row stands =
    let off = off_there c.args.self.now c.in-Some.capture_list row (sym c.self.view_is ∙ c.in-Some.is) stands in
    let may = subst (λ (m : Memory). MayStandForList m.cells row.list row.lost) (sym c.plan.ensures) off.may in
    let one = c.in-Ok.ensures.found row.list (list_found row.list row.lost true) (may_one row.list c.plan.new.self.memory.cells row.lost may) in
    let found = found_one row.list row.lost c.open.new.self.list one in
    let opens = c.in-Ok.ensures.opens in (
      found.0,
      opened_on c.open.new.self row c.args.tear found.0 found.1 opens.fits opens.on opens.commit (opens.plan ∙ ap (λ (m : Memory). m.plan) c.plan.ensures),
    )

pub returns-in-Err-clause-lost : goal.returns-in-Err-clause-lost
returns-in-Err-clause-lost g c row stands =
    let off = off_there c.args.self.now c.in-Some.capture_list row (sym c.self.view_is ∙ c.in-Some.is) stands in
    let may = subst (λ (m : Memory). MayStandForList m.cells row.list row.lost) (sym c.plan.ensures) off.may in
    let after = list_found row.list row.lost true in
    record {
      off = c.in-Err.ensures.gone.gone.off;
      may =
          one_may row.list c.open.new.self.memory.cells row.lost
          (c.in-Err.ensures.lost row.list after (may_one row.list c.plan.new.self.memory.cells row.lost may));
      none = off.none;
    }
