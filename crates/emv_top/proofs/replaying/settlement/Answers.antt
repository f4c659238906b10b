use Rattle.std.proofs.Common.{◌≡◌, ◌+◌, None, refl, rules, sym, ap, ◌∙◌, slice_get, subst, arith}
use Rattle.emv_top.proofs.Going.{passes}
use Rattle.emv_top.proofs.Replays.{onward_from, cut_off_from, stays}
use Rattle.scenario_plan.specs.Plan.{ScenarioData}
use Rattle.txn_replay.specs.Run.{Reached, Settling, Auditing, settling, audit}
use Rattle.txn_replay.specs.Steps.{settlements}
use Rattle.txn_replay.specs.Stored.{IsSettledTo}
use Rattle.txn_replay.specs.World.{World}
use Rattle.txn_replay.specs.declared.event.Event.TheVariants.{Settle}
use Rattle.txn_replay.specs.Seen.{WorldStands}
use Rattle.txn_replay.proofs.StoreLaws.StoresEmptied.{goes_through}
use Rattle.emv_top.proofs.replaying.settlement.Goals as goal

pub settle-requires-clause-done : goal.settle-requires-clause-done
settle-requires-clause-done g c = c.loop-number.invariant.done ∙ c.requires.done

-- where the run has come to, the settlement has come to this step
pub settle-requires-clause-next : goal.settle-requires-clause-next
settle-requires-clause-next g c =
    let far = c.loop-number.invariant.far c.requires.here.0 c.requires.here.1 in
    record {
      world = far.world;
      stands = far.stands;
      through = subst (λ (t : ScenarioData). IsSettledTo t far.world c.loop-number.number) (sym c.loop-number.invariant.told)
          (goes_through c.args.scenario.now c.loop-number.number far.count far.choices far.lines far.world c.requires.played.rules.tables.one_copy far.reached);
    }

pub loop-number-preserved : goal.loop-number-preserved
loop-number-preserved g c =
    let went = c.in-Ok-true.field-0-test in
    record {
      far = λ first far.
          onward_from c.args.scenario.now (Settle c.loop-number.number) c.loop-number.world c.settle.new.world c.loop-number.invariant.told c.in-Ok-true.ensures.happens.scenario
          (Settling c.loop-number.number) (Settling (c.loop-number.number + 1)) (λ n cs ch ls made w next reached stands there step. settling reached there.1 step) first _ _
          (c.in-Ok-true.ensures.there went)
          (λ n cs ls w reached stands.
          c.in-Ok-true.ensures.happens.ok w (
            stands,
            subst (λ (t : ScenarioData). IsSettledTo t w c.loop-number.number) (sym c.loop-number.invariant.told)
                (goes_through c.args.scenario.now c.loop-number.number n cs ls w c.requires.played.rules.tables.one_copy reached),
          ))
          (c.loop-number.invariant.far first far);
      told = c.in-Ok-true.ensures.happens.scenario ∙ c.loop-number.invariant.told;
      calm = c.in-Ok-true.ensures.happens.stop ∙ c.loop-number.invariant.calm;
      done = c.settle.ensures.done ∙ c.loop-number.invariant.done;
      few = omega (arith, c.in-Ok-true.ensures.few went);
    }

pub returns-in-Ok-false-clause-passage : goal.returns-in-Ok-false-clause-passage
returns-in-Ok-false-clause-passage g c =
    let went = c.in-Ok-false.field-0-test in
    let past = subst (λ (t : ScenarioData). (w : World) → WorldStands c.loop-number.world w → slice_get (settlements t w) c.loop-number.number ≡ None)
    c.loop-number.invariant.told (c.in-Ok-false.ensures.past went) in
    record {
      ok = λ first far.
          stays (Auditing 0) c.args.scenario.now c.loop-number.world c.settle.new.world first _ _ (c.in-Ok-false.ensures.still went).0
          (ap g.K.Sink.held (c.in-Ok-false.ensures.still went).1)
          (passes (Reached c.args.scenario.now (Settling c.loop-number.number)) (Reached c.args.scenario.now (Auditing 0)) (WorldStands c.loop-number.world) first _
          (λ n cs ls w reached stands. audit reached (past w stands)) (c.loop-number.invariant.far first far));
      err = search rules;
      told = c.in-Ok-false.ensures.happens.scenario ∙ c.loop-number.invariant.told;
      stop = c.in-Ok-false.ensures.happens.stop ∙ c.loop-number.invariant.calm;
    }

pub returns-in-Err-clause-passage : goal.returns-in-Err-clause-passage
returns-in-Err-clause-passage g c = record {
  ok = search rules;
  err = λ first far.
      cut_off_from c.args.scenario.now (Settle c.loop-number.number) c.loop-number.world c.settle.new.world c.loop-number.invariant.told c.in-Err.ensures.happens.scenario
      (Settling c.loop-number.number) (Settling (c.loop-number.number + 1)) (λ n cs ch ls made w next reached stands there step. settling reached there.1 step) first _ _
      (λ w. refl) (λ w. refl)
      (λ n cs ls w reached stands.
      c.in-Err.ensures.happens.err w (
        stands,
        subst (λ (t : ScenarioData). IsSettledTo t w c.loop-number.number) (sym c.loop-number.invariant.told)
            (goes_through c.args.scenario.now c.loop-number.number n cs ls w c.requires.played.rules.tables.one_copy reached),
      ))
      (c.loop-number.invariant.far first far);
  told = c.in-Err.ensures.happens.scenario ∙ c.loop-number.invariant.told;
  stop = search rules;
}
