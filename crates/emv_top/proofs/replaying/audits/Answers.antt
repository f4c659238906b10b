use Rattle.std.proofs.Common.{◌≡◌, ◌+◌, None, refl, rules, ap, ◌∙◌, slice_get, subst, arith}
use Rattle.emv_top.proofs.Going.{passes}
use Rattle.emv_top.proofs.Replays.{onward, cut_off, stays}
use Rattle.scenario_plan.specs.Plan.{ScenarioData}
use Rattle.txn_replay.specs.Run.{Reached, Auditing, Finished, auditing, finished}
use Rattle.txn_replay.specs.Steps.{checks}
use Rattle.txn_replay.specs.declared.event.Event.TheVariants.{Audit}
use Rattle.txn_replay.specs.Seen.{WorldStands}
use Rattle.txn_replay.proofs.AuditLaws.AuditWorlds.{first_next}
use Rattle.emv_top.proofs.replaying.audits.Goals as goal

pub loop-number-init : goal.loop-number-init
loop-number-init g c = record {
  far = λ first far. far;
  told = c.requires.told;
  calm = refl;
  done = c.requires.done;
  next = first_next c.args.world.now;
  few = omega arith;
}

pub loop-number-preserved : goal.loop-number-preserved
loop-number-preserved g c =
    let went = c.in-Ok-true.field-0-test in
    record {
      far = λ first far.
          onward c.args.scenario.now (Audit c.loop-number.number) c.loop-number.world c.audit.new.world c.loop-number.invariant.told c.in-Ok-true.ensures.happens.scenario
          (Auditing c.loop-number.number) (Auditing (c.loop-number.number + 1)) (λ n cs ch ls made w next reached stands there step. auditing reached there.1 step) first _ _
          (λ w stands. c.in-Ok-true.ensures.there went w) c.in-Ok-true.ensures.happens.ok (c.loop-number.invariant.far first far);
      told = c.in-Ok-true.ensures.happens.scenario ∙ c.loop-number.invariant.told;
      calm = c.in-Ok-true.ensures.happens.stop ∙ c.loop-number.invariant.calm;
      done = c.audit.ensures.done;
      next = c.in-Ok-true.ensures.next went;
      few = omega (arith, c.in-Ok-true.ensures.few went);
    }

pub returns-in-Ok-false : goal.returns-in-Ok-false
returns-in-Ok-false g c =
    let went = c.in-Ok-false.field-0-test in
    let past = subst (λ (t : ScenarioData). slice_get (checks t) c.loop-number.number ≡ None) c.loop-number.invariant.told (c.in-Ok-false.ensures.past went) in
    record {
      ok = λ first far.
          stays Finished c.args.scenario.now c.loop-number.world c.audit.new.world first _ _ (c.in-Ok-false.ensures.still went).0
          (ap g.K.Sink.held (c.in-Ok-false.ensures.still went).1)
          (passes (Reached c.args.scenario.now (Auditing c.loop-number.number)) (Reached c.args.scenario.now Finished) (WorldStands c.loop-number.world) first _
          (λ n cs ls w reached stands. finished reached past) (c.loop-number.invariant.far first far));
      err = search rules;
      told = c.in-Ok-false.ensures.happens.scenario ∙ c.loop-number.invariant.told;
      stop = c.in-Ok-false.ensures.happens.stop ∙ c.loop-number.invariant.calm;
    }

pub returns-in-Err : goal.returns-in-Err
returns-in-Err g c = record {
  ok = search rules;
  err = λ first far.
      cut_off c.args.scenario.now (Audit c.loop-number.number) c.loop-number.world c.audit.new.world c.loop-number.invariant.told c.in-Err.ensures.happens.scenario
      (Auditing c.loop-number.number) (Auditing (c.loop-number.number + 1)) (λ n cs ch ls made w next reached stands there step. auditing reached there.1 step) first _ _
      (λ w. refl) (λ w. refl) c.in-Err.ensures.happens.err (c.loop-number.invariant.far first far);
  told = c.in-Err.ensures.happens.scenario ∙ c.loop-number.invariant.told;
  stop = search rules;
}
