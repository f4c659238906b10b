-- The events of a run, one by one.
use Rattle.std.proofs.Common.{◌≡◌, ◌⊎◌, ℕ, zero, suc, ◌+◌, ◌<◌, ◌≤◌, Bool, true, false, List, [], ◌∷◌, ◌++◌, length, get_or, slice_get, Option, Some, refl, sym, ap, ◌∙◌, subst, inl, inr, arith}
use Rattle.emv_top.specs.RunsSoFar.{IsRunSoFar, RunWasStopped, Makes, IsThere, MakesNone, Replays, tail_at, all_lines}
use Rattle.emv_top.proofs.Going.{more, halts}
use Rattle.report_text.specs.declared.line.Line.{Line}
use Rattle.scenario_plan.specs.Plan.{ScenarioData}
use Rattle.txn_replay.specs.Run.{RunPlace, Reached, all_over}
use Rattle.txn_replay.specs.Sound.{IsWorldSound, IsIdle}
use Rattle.txn_replay.specs.Steps.{Step}
use Rattle.txn_replay.specs.World.{World}
use Rattle.txn_replay.specs.declared.event.Event.{Event}
use Rattle.txn_replay.proofs.RunLaws.TurnsEnd.{stuck_over}
use Rattle.txn_replay.specs.Seen.{WorldSeen, WorldStands, turns_left}

at_place : (ns : List ℕ) (i : ℕ) → i < length ns → slice_get ns i ≡ Some (get_or ns i 0)
at_place [] i within = absurd (omega arith)
at_place (n ∷ ns) zero within = refl
at_place (n ∷ ns) (suc i) within = at_place ns i (omega arith)

-- the number at a place of the schedule
pub scheduled_at : (xs ys : List ℕ) (i l : ℕ) → ys ≡ xs → i < length ys → l ≡ get_or ys i 0 → slice_get xs i ≡ Some l
scheduled_at xs ys i l same within is =
    subst (λ (zs : List ℕ). slice_get zs i ≡ Some l) same (at_place ys i within ∙ ap (λ (n : ℕ). Some n) (sym is))

-- an event leads from one place to the next
abbrev pub Grows : ScenarioData → WorldSeen → Event → RunPlace → RunPlace → Type 0
Grows s v e here there =
    (n : ℕ) (cs c : List Bool) (ls made : List Line) (w after : World) → Reached s here n cs ls w → WorldStands v w → IsThere s w e → Step s w e c made after
    → Reached s there (n + 1) (cs ++ c) (ls ++ made) after

module _ (s : ScenarioData) (e : Event) (v after : WorldSeen) (told : v.scenario ≡ s) (same : after.scenario ≡ v.scenario) (here there : RunPlace)
    (grows : Grows s v e here there) (first old new : Option (List ℕ)) where
  -- by what is known of a world that has come here
  pub onward_from : ((w : World) → WorldStands v w → IsThere v.scenario w e)
      → ((n : ℕ) (cs : List Bool) (ls : List Line) (w : World) → Reached s here n cs ls w → WorldStands v w → Makes after w e all_lines old new)
      → IsRunSoFar (Reached s here) (WorldStands v) first old → IsRunSoFar (Reached s there) (WorldStands after) first new
  onward_from is_there makes far =
      more s e all_lines (λ lines bytes. bytes) v after (same ∙ told) (Reached s here) (Reached s there) first old new grows
      (subst (λ (t : ScenarioData). (w : World) → WorldStands v w → IsThere t w e) told is_there) makes far

  pub onward : ((w : World) → WorldStands v w → IsThere v.scenario w e) → ((w : World) → WorldStands v w → Makes after w e all_lines old new)
      → IsRunSoFar (Reached s here) (WorldStands v) first old → IsRunSoFar (Reached s there) (WorldStands after) first new
  onward is_there makes far = onward_from is_there (λ n cs ls w reached. makes w) far

  pub cut_off_from : ((w : World) → tail_at s here w ≡ []) → ((w : World) → tail_at s there w ≡ [])
      → ((n : ℕ) (cs : List Bool) (ls : List Line) (w : World) → Reached s here n cs ls w → WorldStands v w → MakesNone v.scenario after w e all_lines old new)
      → IsRunSoFar (Reached s here) (WorldStands v) first old → RunWasStopped s all_lines (Replays s) (WorldStands after) first new
  cut_off_from none_here none_there fails far =
      halts s e all_lines (λ lines bytes. bytes) v after (same ∙ told) (Reached s here) (Replays s) first old new
      (λ n cs ls w reached. ([], (here, reached, sym (none_here w))))
      (λ n cs c ls made w next reached stands is_there step. ([], (there, grows n cs c ls made w next reached stands is_there step, sym (none_there next)))) far
      (subst (λ (t : ScenarioData). (n : ℕ) (cs : List Bool) (ls : List Line) (w : World) → Reached s here n cs ls w → WorldStands v w
      → MakesNone t after w e all_lines old new) told fails)

  pub cut_off : ((w : World) → tail_at s here w ≡ []) → ((w : World) → tail_at s there w ≡ []) → ((w : World) → WorldStands v w → MakesNone v.scenario after w e all_lines old new)
      → IsRunSoFar (Reached s here) (WorldStands v) first old → RunWasStopped s all_lines (Replays s) (WorldStands after) first new
  cut_off none_here none_there fails far = cut_off_from none_here none_there (λ n cs ls w reached. fails w) far

-- in each turn of a round the turns that are left become fewer, or the lane waits and nothing changes
abbrev pub Onward : ScenarioData → WorldSeen → WorldSeen → ℕ → Type 0
Onward s first now lane =
    (turns_left now < turns_left first) ⊎ ((now ≡ first) × ((w : World) → WorldStands first w → (k : ℕ) → k < lane → IsIdle s w k))

-- what a turn does
pub record Turned (v after : WorldSeen) (lane : ℕ) (went : Bool) : Type 0 where
  pub nearer : went ≡ true → turns_left after < turns_left v
  pub idle : went ≡ false → (w : World) → WorldStands v w → IsIdle v.scenario w lane
  pub still : went ≡ false → after ≡ v

below_next : {P : ℕ → Type 0} (n : ℕ) → ((k : ℕ) → k < n → P k) → P n → (k : ℕ) → k < n + 1 → P k
below_next {P} n below here k within = go (split k n within)
  where
    split : (k n : ℕ) → k < n + 1 → (k < n) ⊎ (n ≡ k)
    split zero zero within = inr refl
    split zero (suc n) within = inl (omega arith)
    split (suc k) zero within = absurd (omega arith)
    split (suc k) (suc n) within = elim (split k n (omega arith)) [ inl less ↦ inl (omega arith) | inr same ↦ inr (ap suc same) ]

    go : (k < n) ⊎ (n ≡ k) → P k
    go (inl less) = below k less
    go (inr same) = subst P same here

module _ (s : ScenarioData) (first v after : WorldSeen) (told : v.scenario ≡ s) (lane : ℕ) where
  onward_by : (went : Bool) → Turned v after lane went → Onward s first v lane → Onward s first after (lane + 1)
  onward_by true turned (inl fewer) = inl (let next : turns_left after < turns_left v = turned.nearer refl in omega arith)
  onward_by true turned (inr idle) =
      inl (subst (λ (x : WorldSeen). turns_left after < turns_left x) idle.0 (turned.nearer refl))
  onward_by false turned (inl fewer) = inl (subst (λ (x : WorldSeen). turns_left x < turns_left first) (sym (turned.still refl)) fewer)
  onward_by false turned (inr idle) = inr (
    turned.still refl ∙ idle.0,
    (λ w stands. below_next lane (idle.1 w stands)
        (subst (λ (t : ScenarioData). IsIdle t w lane) told (turned.idle refl w (subst (λ (x : WorldSeen). WorldStands x w) (sym idle.0) stands)))),
  )

  pub onward_next : (went : Bool) → (went ≡ true → turns_left after < turns_left v) → (went ≡ false → (w : World) → WorldStands v w → IsIdle v.scenario w lane)
      → (went ≡ false → after ≡ v) → Onward s first v lane → Onward s first after (lane + 1)
  onward_next went nearer idle still before = onward_by went (record { nearer = nearer; idle = idle; still = still }) before

-- a round in which every lane waits is one where all is over
pub fell : (s : ScenarioData) (first now : WorldSeen) (lane : ℕ) → length s.lanes ≤ lane → first.scenario ≡ s → (w : World) → WorldStands first w
    → ((v : World) → WorldStands first v → all_over s v ≡ false) → Onward s first now lane → turns_left now < turns_left first
fell s first now lane past told w stands busy (inl fewer) = fewer
fell s first now lane past told w stands busy (inr idle) =
    let sound : IsWorldSound s w = subst (λ (t : ScenarioData). IsWorldSound t w) told stands.sound in
    let over : all_over s w ≡ true = stuck_over s w sound (λ l within. idle.1 w stands l (omega arith)) in
    let busy_now : all_over s w ≡ false = busy w stands in
    absurd (cc)

-- behind the last turn of the schedule
pub at_end : (xs ys : List ℕ) (i : ℕ) → ys ≡ xs → length ys ≤ i → i ≤ length ys → i ≡ length xs
at_end xs ys i same past within = let count : length ys ≡ length xs = ap (λ (zs : List ℕ). length zs) same in omega arith

-- nothing has changed
pub stays : (place : RunPlace) (s : ScenarioData) (v after : WorldSeen) (first old new : Option (List ℕ)) → after ≡ v → new ≡ old
    → IsRunSoFar (Reached s place) (WorldStands v) first old → IsRunSoFar (Reached s place) (WorldStands after) first new
stays place s v after first old new same held far =
    subst (λ (x : WorldSeen). IsRunSoFar (Reached s place) (WorldStands x) first new) (sym same)
    (subst (λ (o : Option (List ℕ)). IsRunSoFar (Reached s place) (WorldStands v) first o) (sym held) far)
