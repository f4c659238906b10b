use Rattle.std.proofs.Common.{◌≡◌, ◌+◌, ◌≤◌, length, map, refl, ap, sym, ◌∙◌, rules, arith}
use Rattle.std.proofs.lemmas.Result.{err_from_is_err_and}
use Rattle.std.proofs.lemmas.List.Elements.{All-push}
use Rattle.scenario_fields.proofs.Loops.{Fails-then}
use Rattle.scenario_fields.specs.TablePaths.{path}
use Rattle.scenario_lanes.proofs.LaneLoop.{lanes_pushed, lanes_stopped, purchase_count-push, HaveRoom-push}
use Rattle.scenario_lanes.specs.Plan.{IsLane}
use Rattle.scenario_lanes.proofs.lane.read_lanes.Goals as goal

pub returns-in_err-lane-clause-exact : goal.returns-in_err-lane-clause-exact
returns-in_err-lane-clause-exact c =
    let failed = err_from_is_err_and c.from_residual.result c.from_residual.ensures.1 in
    rw (failed.1, failed.2)
    (Fails-then c.in_err-lane.field-0.0 _ _
    (λ e is. lanes_stopped (path c.args.document.now.place) (map (λ name. name.now) c.args.cards.now) c.args.pin_key c.loop-value.value-index c.len.result
    c.loop-value.earlier c.args.values.now c.value-item.result c.loop-value.lanes.items _ e
    c.loop-value-test.true c.value-item.is (omega (arith, c.len.ensures)) c.loop-value.invariant.read is)
    c.in_err-lane.ensures.exact)

pub loop-value-preserved : goal.loop-value-preserved
loop-value-preserved c =
    let size : length c.in_ok-lane.lane.purchases ≡ c.len-earlier.result = ap (λ lane. length lane.purchases) (sym c.lane.view_is) ∙ search rules in
    record {
      count = search rules;
      sum = rw (c.in_ok-push.ensures.items, purchase_count-push, size, ← c.loop-value.invariant.sum) refl;
      room = let within : c.loop-value.earlier + length c.in_ok-lane.lane.purchases ≤ 10000 = c.in_ok-lane.ensures.count in omega (arith, size);
      rules = rw c.in_ok-push.ensures.items (All-push IsLane _ _ c.loop-value.invariant.rules c.in_ok-lane.ensures.rules);
      rooms =
          rw c.in_ok-push.ensures.items
          (HaveRoom-push (length c.args.cards.now) c.loop-value.lanes.items c.in_ok-lane.lane c.len.result (search rules)
          c.loop-value.invariant.rooms c.in_ok-lane.ensures.room);
      pins = rw c.in_ok-push.ensures.items (All-push (λ lane. lane.settings.pin_key ≡ c.args.pin_key) _ _ c.loop-value.invariant.pins c.in_ok-lane.ensures.pin);
      read =
          lanes_pushed (path c.args.document.now.place) (map (λ name. name.now) c.args.cards.now) c.args.pin_key c.loop-value.value-index c.len.result c.loop-value.earlier
          c.len-earlier.result c.args.values.now c.value-item.result c.loop-value.lanes.items c.push.new.self.items c.in_ok-lane.lane _
          c.loop-value-test.true c.value-item.is (omega (arith, c.len.ensures)) c.in_ok-push.ensures.items size
          c.in_ok-lane.ensures.exact c.loop-value.invariant.read;
    }
