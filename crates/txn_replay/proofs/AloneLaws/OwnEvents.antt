-- Each event of a run is one of a lane alone, or none of it.
-- So a lane that shares no card and no account number runs as it does alone: the law `StepsComeApart`.
use Rattle.std.proofs.Common.{◌≡◌, ◌≢◌, ℕ, ◌-◌, ◌<◌, ◌==◌, Bool, true, false, List, length, take, slice_get, Option, Some, None, refl, sym, ap, ◌∙◌, subst, arith}
use Rattle.std.specs.Prelude.{count_by, filter}
use Rattle.std.proofs.lemmas.Bool.{eqb-true, eq-eqb}
use Rattle.host_histories.specs.Apart.{StandApart}
use Rattle.host_histories.proofs.Apart.{stand_apart}
use Rattle.report_text.specs.declared.line.Line.{Line}
use Rattle.scenario_plan.specs.Plan.{ScenarioData, IsScenario}
use Rattle.txn_replay.specs.Alone.{is_card_of, alone, HasOwnNumbers, PartsAgree, is_own}
use Rattle.txn_replay.specs.StandAlone.{IsApart, is_step_of, is_check_of, Follows, LeavesLane, ComesBy, StepsComeApart}
use Rattle.txn_replay.specs.Steps.{After, Settlement, Opens, Sends, Check, settlements, settles, checks, audits, happens, Step}
use Rattle.txn_replay.specs.World.{World}
use Rattle.txn_replay.specs.declared.event.Event.{Event}
use Rattle.txn_replay.specs.declared.event.Event.TheVariants.{Turn, Settle, Audit}
use Rattle.txn_replay.proofs.AloneLaws.OwnAudits.{passed, passed_counts, passed_own, is_on, alone_checks, own_audits, other_audits}
use Rattle.txn_replay.proofs.AloneLaws.OwnSettlements.{own_steps, alone_steps, own_settles, other_settles, OwnStep, own_step}
use Rattle.txn_replay.proofs.AloneLaws.OwnTurns.{Both, Others, own_turn, other_turn}
use Rattle.txn_replay.proofs.SettlementLaws.SettlementPlaces.{before_lane}
use Rattle.txn_replay.proofs.SettlementLaws.SettlementSteps.{lane_in, settles_inside}

module _ (pans : List ℕ → Bool) (s : ScenarioData) (l : ℕ) (w v : World) (e : Event) (choices : List Bool) (lines : List Line) (after : World)
    (step : Step s w e choices lines after) where
  own_so : (event : Event) → Both pans s l (happens s w e choices) (happens (alone pans s l) v event choices) → Follows pans s l v event choices lines after
  own_so event both = record {
    world = (happens (alone pans s l) v event choices).world;
    step = record { taken = step.taken ∙ sym both.choices; made = step.made ∙ sym both.lines; leads = refl };
    told = ap (filter (is_own pans s l)) step.made ∙ both.told ∙ sym step.made;
    parts = subst (λ (x : World). PartsAgree pans s l x (happens (alone pans s l) v event choices).world) (sym step.leads) both.parts;
  }

  other_so : Others pans s l (happens s w e choices) v → LeavesLane pans s l v lines after
  other_so others = record {
    none = ap (filter (is_own pans s l)) step.made ∙ others.none;
    parts = subst (λ (x : World). PartsAgree pans s l x v) (sym step.leads) others.parts;
  }

module _ (apart : StandApart) (pans : List ℕ → Bool) (s : ScenarioData) (l : ℕ) (w v : World) (choices : List Bool) (lines : List Line) (after : World)
    (fits : IsScenario s) (is : IsApart pans s l after) (agree : PartsAgree pans s l w v) where
  turn_comes : (k : ℕ) → Step s w (Turn k) choices lines after → ComesBy pans s l v (Turn l) choices lines after (k == l)
  turn_comes k step = by (k == l) refl
    where
      numbers : HasOwnNumbers pans l (happens s w (Turn k) choices).world
      numbers = subst (λ (x : World). HasOwnNumbers pans l x) step.leads is.numbers

      differs : (n : ℕ) → (n == l) ≡ false → n ≢ l
      differs n other same = let never : true ≡ false = sym (eq-eqb n l same) ∙ other in cc

      by : (b : Bool) → (k == l) ≡ b → ComesBy pans s l v (Turn l) choices lines after b
      by true this =
          let same : k ≡ l = eqb-true k l this in
          own_so pans s l w v (Turn k) choices lines after step (Turn l)
          (subst (λ n. Both pans s l (happens s w (Turn n) choices) (happens (alone pans s l) v (Turn l) choices)) (sym same)
          (own_turn pans s l apart is.inside w v agree choices (subst (λ n. HasOwnNumbers pans l (happens s w (Turn n) choices).world) same numbers)))
      by false other =
          other_so pans s l w v (Turn k) choices lines after step
          (other_turn pans s l apart is.inside w v agree choices is.cards k (differs k other) numbers)

  settle_comes : (k : ℕ) → Step s w (Settle k) choices lines after
      → ComesBy pans s l v (Settle (k - before_lane s w l)) choices lines after (is_step_of l (slice_get (settlements s w) k))
  settle_comes k step = by_step (slice_get (settlements s w) k) refl
    where
      within : l < length w.lanes
      within = omega (arith, is.inside, agree.lane_count)

      by_lane : (at : Settlement) (b : Bool) → slice_get (settlements s w) k ≡ Some at → (lane_in at == l) ≡ b
          → ComesBy pans s l v (Settle (k - before_lane s w l)) choices lines after b
      by_lane at true here this =
          let same : lane_in at ≡ l = eqb-true (lane_in at) l this in
          let so : happens s w (Settle k) choices ≡ settles s w choices (Some at) = ap (λ (o : Option Settlement). settles s w choices o) here in
          let own : OwnStep s w k l fits.tables.one_copy within choices at = own_step s w k l fits.tables.one_copy within choices at here same in
          let here_alone : slice_get (settlements (alone pans s l) v) (own_steps s w l k) ≡ Some at =
          ap (λ (xs : List Settlement). slice_get xs (own_steps s w l k)) (alone_steps pans s l w v agree) ∙ own.inner in
          subst (λ n. Follows pans s l v (Settle n) choices lines after) own.number
          (own_so pans s l w v (Settle k) choices lines after step (Settle (own_steps s w l k))
          (subst (λ (x : After). Both pans s l x (happens (alone pans s l) v (Settle (own_steps s w l k)) choices)) (sym so)
          (subst (λ (o : Option Settlement). Both pans s l (settles s w choices (Some at)) (settles (alone pans s l) v choices o)) (sym here_alone)
          (own_settles pans s l w v agree apart is.inside choices at same
          (subst (λ (x : World). HasOwnNumbers pans l x) (step.leads ∙ ap (λ (x : After). x.world) so) is.numbers)))))
      by_lane at false here other =
          let so : happens s w (Settle k) choices ≡ settles s w choices (Some at) = ap (λ (o : Option Settlement). settles s w choices o) here in
          other_so pans s l w v (Settle k) choices lines after step
          (subst (λ (x : After). Others pans s l x v) (sym so)
          (other_settles pans s l w v agree apart is.inside choices at (λ same. never (sym (eq-eqb (lane_in at) l same) ∙ other))
          (settles_inside s w.lanes k at here)
          (subst (λ (x : World). HasOwnNumbers pans l x) (step.leads ∙ ap (λ (x : After). x.world) so) is.numbers)))
        where
          never : true ≡ false → ⊥
          never same = cc

      by_step : (o : Option Settlement) → slice_get (settlements s w) k ≡ o
          → ComesBy pans s l v (Settle (k - before_lane s w l)) choices lines after (is_step_of l o)
      by_step None here =
          let so : happens s w (Settle k) choices ≡ settles s w choices None = ap (λ (o : Option Settlement). settles s w choices o) here in
          other_so pans s l w v (Settle k) choices lines after step
          (subst (λ (x : After). Others pans s l x v) (sym so) (record { none = refl; parts = agree }))
      by_step (Some (Opens lane)) here = by_lane (Opens lane) (lane == l) here refl
      by_step (Some (Sends lane message drops)) here = by_lane (Sends lane message drops) (lane == l) here refl

  audit_comes : (k : ℕ) → Step s w (Audit k) choices lines after
      → ComesBy pans s l v (Audit (count_by (is_on (is_card_of s l)) (take k (checks s)))) choices lines after
      (is_check_of (is_card_of s l) (slice_get (checks s) k))
  audit_comes k step = by_check (slice_get (checks s) k) refl
    where
      by_card : (check : Check) (b : Bool) → slice_get (checks s) k ≡ Some check → is_on (is_card_of s l) check ≡ b
          → ComesBy pans s l v (Audit (count_by (is_on (is_card_of s l)) (take k (checks s)))) choices lines after b
      by_card check true here its =
          let so : happens s w (Audit k) choices ≡ audits w choices (Some check) = ap (λ (o : Option Check). audits w choices o) here in
          let own = passed_own (is_on (is_card_of s l)) (checks s) k check here its in
          let at : ℕ = passed (is_on (is_card_of s l)) (checks s) k in
          let here_alone : slice_get (checks (alone pans s l)) at ≡ Some check =
          ap (λ (xs : List Check). slice_get xs at) (alone_checks pans s l) ∙ own.0 in
          subst (λ n. Follows pans s l v (Audit n) choices lines after) (passed_counts (is_on (is_card_of s l)) (checks s) k)
          (own_so pans s l w v (Audit k) choices lines after step (Audit at)
          (subst (λ (x : After). Both pans s l x (happens (alone pans s l) v (Audit at) choices)) (sym so)
          (subst (λ (o : Option Check). Both pans s l (audits w choices (Some check)) (audits v choices o)) (sym here_alone)
          (own_audits pans s l w v agree choices fits k check here its))))
      by_card check false here isnt =
          let so : happens s w (Audit k) choices ≡ audits w choices (Some check) = ap (λ (o : Option Check). audits w choices o) here in
          other_so pans s l w v (Audit k) choices lines after step
          (subst (λ (x : After). Others pans s l x v) (sym so) (other_audits pans s l w v agree choices fits k check here isnt))

      by_check : (o : Option Check) → slice_get (checks s) k ≡ o
          → ComesBy pans s l v (Audit (count_by (is_on (is_card_of s l)) (take k (checks s)))) choices lines after (is_check_of (is_card_of s l) o)
      by_check None here =
          let so : happens s w (Audit k) choices ≡ audits w choices None = ap (λ (o : Option Check). audits w choices o) here in
          other_so pans s l w v (Audit k) choices lines after step
          (subst (λ (x : After). Others pans s l x v) (sym so) (record { none = refl; parts = agree }))
      by_check (Some check) here = by_card check (is_on (is_card_of s l) check) here refl

pub steps_come_apart : StandApart → StepsComeApart
steps_come_apart apart s w (Turn k) choices lines after step = λ pans l v fits is agree. turn_comes apart pans s l w v choices lines after fits is agree k step
steps_come_apart apart s w (Settle k) choices lines after step = λ pans l v fits is agree. settle_comes apart pans s l w v choices lines after fits is agree k step
steps_come_apart apart s w (Audit k) choices lines after step = λ pans l v fits is agree. audit_comes apart pans s l w v choices lines after fits is agree k step

-- so with what accounts keep to
pub step_apart : StepsComeApart
step_apart = steps_come_apart stand_apart
