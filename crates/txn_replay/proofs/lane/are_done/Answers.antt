use Rattle.std.proofs.Common.{◌≡◌, ◌<◌, length, slice_get, Some, sym, ◌∙◌, subst}
use Rattle.txn_replay.specs.Seen.{is_lane_done}
use Rattle.txn_replay.proofs.TurnLaws.AllDone.{undone_below, done_next}
use Rattle.txn_replay.proofs.Lists.{found_at}
use Rattle.txn_replay.proofs.lane.are_done.Goals as goal

pub returns-then-not-is_done : goal.returns-then-not-is_done
returns-then-not-is_done c =
    let terminal : slice_get c.args.terminals.now c.loop-index.index ≡ Some c.index-terminals-index.result =
    found_at c.args.terminals.now c.loop-index.index c.index-terminals-index.result c.loop-index-test.true c.index-terminals-index.is in
    let lane : slice_get c.args.lanes.now c.loop-index.index ≡ Some c.index-lanes-index.result =
    found_at c.args.lanes.now c.loop-index.index c.index-lanes-index.result
    (subst (λ n. c.loop-index.index < n) (sym c.loop-index.invariant.same) c.loop-index-test.true) c.index-lanes-index.is in
    sym (undone_below c.args.terminals.now c.args.lanes.now (length c.args.terminals.now) c.loop-index.index c.loop-index-test.true
    ((λ j. is_lane_done (terminal j) (lane j)) ∙ sym c.is_done.ensures ∙ c.if-not-is_done.true))

pub loop-index-preserved : goal.loop-index-preserved
loop-index-preserved c = record {
  before =
      (let terminal : slice_get c.args.terminals.now c.loop-index.index ≡ Some c.index-terminals-index.result =
      found_at c.args.terminals.now c.loop-index.index c.index-terminals-index.result c.loop-index-test.true c.index-terminals-index.is in
      let lane : slice_get c.args.lanes.now c.loop-index.index ≡ Some c.index-lanes-index.result =
      found_at c.args.lanes.now c.loop-index.index c.index-lanes-index.result
      (subst (λ n. c.loop-index.index < n) (sym c.loop-index.invariant.same) c.loop-index-test.true) c.index-lanes-index.is in
      done_next c.args.terminals.now c.args.lanes.now c.loop-index.index c.loop-index.invariant.before
      ((λ j. is_lane_done (terminal j) (lane j)) ∙ sym c.is_done.ensures ∙ c.if-not-is_done.false));
  same = c.loop-index.invariant.same;
}
