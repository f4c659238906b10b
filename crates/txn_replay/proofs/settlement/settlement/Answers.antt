use Rattle.std.proofs.Common.{◌≡◌, ℕ, ◌+◌, ◌-◌, ◌<◌, Bool, drop, length, slice_get, Option, Some, None, sym, ap, ◌∙◌, subst, arith}
use Rattle.txn_replay.specs.Payment.{durable_of}
use Rattle.txn_replay.specs.Settling.{steps_of, step_in, IsStepOf}
use Rattle.txn_replay.specs.Steps.{Settlement, lane_settlements, settlements_from}
use Rattle.txn_replay.proofs.Lists.{found_at, some_at}
use Rattle.txn_replay.proofs.SettlementLaws.SettlementOfLane.{steps_count, step_found, own_step, later_step, no_steps}
use Rattle.txn_replay.proofs.settlement.settlement.Goals as goal

pub returns-then-left-steps : goal.returns-then-left-steps
returns-then-left-steps c = λ rows are.
    let s = c.args.scenario.now in
    let l : ℕ = c.loop-index.index in
    let lane = c.index-lanes-index.result in
    let here : slice_get c.args.lanes.now l ≡ Some lane = found_at c.args.lanes.now l lane c.loop-index-test.true c.index-lanes-index.is in
    let row = some_at rows l (omega (arith, are.count, c.loop-index-test.true)) in
    let keeps = are.keeps l lane row.0 here row.1 in
    let durable : c.is_durable-durable.result ≡ durable_of s l = c.is_durable-durable.ensures in
    let copies : c.from-copies.result ≡ s.copies = c.loop-index.invariant.copies in
    let steps : c.steps_of-steps.result ≡ steps_of lane (durable_of s l) s.copies = c.steps_of-steps.ensures ∙ (λ i. steps_of lane (durable i) (copies i)) in
    let found : step_in lane l (durable_of s l) s.copies c.loop-index.left c.step_in.result =
    subst (λ (b : Bool). step_in lane l b s.copies c.loop-index.left c.step_in.result) durable
    (subst (λ (n : ℕ). step_in lane l c.is_durable-durable.result n c.loop-index.left c.step_in.result) copies c.step_in.ensures) in
    let within : c.loop-index.left < steps_of lane (durable_of s l) s.copies = omega (arith, steps, c.if-left-steps.true) in
    let step = step_found s l lane row.0 c.loop-index.left c.step_in.result c.requires.scenario.tables.one_copy keeps within found in
    subst (λ (o : Option Settlement). IsStepOf (durable_of s) o (Some c.step_in.result))
    (sym (own_step s rows l row.0 c.loop-index.left step.0 row.1 step.1) ∙ c.loop-index.invariant.same rows are) step.2

pub loop-index-preserved : goal.loop-index-preserved
loop-index-preserved c = record {
  same = λ rows are.
      (let s = c.args.scenario.now in
      let l : ℕ = c.loop-index.index in
      let lane = c.index-lanes-index.result in
      let here : slice_get c.args.lanes.now l ≡ Some lane = found_at c.args.lanes.now l lane c.loop-index-test.true c.index-lanes-index.is in
      let row = some_at rows l (omega (arith, are.count, c.loop-index-test.true)) in
      let keeps = are.keeps l lane row.0 here row.1 in
      let durable : c.is_durable-durable.result ≡ durable_of s l = c.is_durable-durable.ensures in
      let copies : c.from-copies.result ≡ s.copies = c.loop-index.invariant.copies in
      let count : c.steps_of-steps.result ≡ length (lane_settlements s.copies l row.0 (durable_of s l)) =
      c.steps_of-steps.ensures ∙ (λ i. steps_of lane (durable i) (copies i))
      ∙ steps_count s.copies l lane row.0 (durable_of s l) c.requires.scenario.tables.one_copy keeps in
      ap (λ n. slice_get (settlements_from s (l + 1) (drop (l + 1) rows)) (c.loop-index.left - n)) count
      ∙ sym (later_step s rows l row.0 c.loop-index.left row.1 (omega (arith, count, c.if-left-steps.false)))
      ∙ c.loop-index.invariant.same rows are);
  copies = c.loop-index.invariant.copies;
  within = omega (arith, c.loop-index-test.true);
}

pub returns : goal.returns
returns c = λ rows are.
    subst (λ (o : Option Settlement). IsStepOf (durable_of c.args.scenario.now) o None)
    (sym (no_steps c.args.scenario.now rows c.loop-index.index c.loop-index.left (omega (arith, are.count, c.loop-index-test.false)))
    ∙ c.loop-index.invariant.same rows are) tt
