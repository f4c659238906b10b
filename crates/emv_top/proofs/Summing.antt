-- What becomes of a generated scenario.
use Rattle.std.proofs.Common.{◌≡◌, ◌≢◌, ◌⊎◌, ℕ, ℤ, List, ◌++◌, Option, None, refl, ap, ◌∙◌, subst, inl, inr, arith}
use Rattle.emv_ports.specs.Causes.{Rose}
use Rattle.emv_ports.specs.Memory.{Memory}
use Rattle.emv_top.specs.Answers.{AreSettled, Completes, Leaves, Plays, ToldReplays}
use Rattle.emv_top.specs.RunsSoFar.{RunWasStopped, all_lines}
use Rattle.emv_top.specs.Decided.{DecidedRun}
use Rattle.emv_top.specs.Generating.{Generates, SumsUp, booked, capped_sum, summary_of, summary_text}
use Rattle.emv_top.specs.StatusCode.{SinkCount, status_code}
use Rattle.emv_top.specs.declared.status.Status.{Status}
use Rattle.emv_top.specs.declared.status.Status.TheVariants.{Done, Refused, Usage, ReadFault, WriteFault, OutOfMemory}
use Rattle.emv_top.specs.declared.words.Task.TheVariants.{Replay}
use Rattle.generated.specs.Generated.{generated_of}
use Rattle.kernel.specs.Tally.{Counts}
use Rattle.report_text.specs.declared.line.Line.{Line}
use Rattle.scenario_plan.specs.Plan.{ScenarioData}
use Rattle.txn_replay.specs.Counting.{counts}
use Rattle.txn_replay.specs.Laws.{IsFair}
use Rattle.txn_replay.specs.Seen.{WorldSeen, WorldStands}
use Rattle.txn_replay.specs.World.{World}

-- a run that is only summed up was cut for want of memory, since its sink never fails
pub unsummed : (n : ℕ) (s : ScenarioData) → s ≡ generated_of n → (bank : List Memory) (tally : Counts) (status : Status) (held : Option (List ℕ)) → status ≢ Done
    → SinkCount 0 0 status → Plays Replay s None None bank tally status → Generates n held held bank tally status
unsummed n s is bank tally Done held other count plays = absurd (other refl)
unsummed n s is bank tally Refused held other count plays = plays
unsummed n s is bank tally Usage held other count plays = plays
unsummed n s is bank tally ReadFault held other count plays = plays
unsummed n s is bank tally WriteFault held other count plays = absurd (omega (arith, count))
unsummed n s is bank tally OutOfMemory held other count (inl unmade) = inl (refl, unmade.1)
unsummed n s is bank tally OutOfMemory held other count (inr cut) =
    let at : RunWasStopped (generated_of n) all_lines (ToldReplays (generated_of n)) (Leaves (generated_of n) bank tally) None None =
    subst (λ (t : ScenarioData). RunWasStopped t all_lines (ToldReplays t) (Leaves t bank tally) None None) is cut in
    inr (record {
      place = at.reached.0.0;
      count = at.count;
      choices = at.choices;
      lines = at.before ++ at.last;
      world = at.world;
      reached = at.reached.0.1;
      leaves = at.stands;
      unwritten = refl;
    })

-- and another sink wasn't asked
pub unheard : (status : Status) (faults : ℕ) → SinkCount 0 0 status → SinkCount faults faults status
unheard Done faults count = refl
unheard Refused faults count = refl
unheard Usage faults count = refl
unheard ReadFault faults count = refl
unheard WriteFault faults count = absurd (omega (arith, count))
unheard OutOfMemory faults count = refl

-- a whole run is summed up, and what holds of the text that was made of it holds of its summary
module _ (n : ℕ) (s : ScenarioData) (is : s ≡ generated_of n) (v : WorldSeen) (told : v.scenario ≡ s) (bank : List Memory) (tally : Counts)
    (leaves : (w : World) → WorldStands v w → IsFair v.scenario w → Leaves v.scenario bank tally w) (sum : ℤ)
    (added : (w : World) → WorldStands v w → sum ≡ capped_sum (booked s w)) (text : List ℕ) (spelled : text ≡ summary_of n tally sum) (written : List ℕ → Type 0) where
  left : (w : World) → WorldStands v w → IsFair s w → Leaves s bank tally w
  left = subst (λ (t : ScenarioData). (w : World) → WorldStands v w → IsFair t w → Leaves t bank tally w) told leaves

  tells : (w : World) → tally ≡ counts w → WorldStands v w → text ≡ summary_text n s w
  tells w counted stands = spelled ∙ ap (λ (c : Counts). summary_of n c sum) counted ∙ ap (summary_of n (counts w)) (added w stands)

  abbrev At : ScenarioData → World → List Line → Type 0
  At t w lines = DecidedRun t lines w × Leaves t bank tally w × AreSettled t w × written (summary_text n t w)

  pub summed : Completes (DecidedRun s) (λ w. WorldStands v w × IsFair s w × AreSettled s w) None None → written text → SumsUp n bank tally written
  summed whole has =
      let gone : Leaves s bank tally whole.world = left whole.world whole.stands.0 whole.stands.1 in
      let of_it : written (summary_text n s whole.world) = subst written (tells whole.world gone.counted whole.stands.0) has in
      let at : At (generated_of n) whole.world whole.lines =
      subst (λ (t : ScenarioData). At t whole.world whole.lines) is (whole.run, gone, whole.stands.2, of_it) in
      record { lines = whole.lines; world = whole.world; run = at.0; leaves = at.1; settled = at.2; told = at.3 }

-- where the sink didn't fail, the run was made, or memory was wanting
pub settles_summed : (n : ℕ) (old new : Option (List ℕ)) (bank : List Memory) (tally : Counts) (status : Status) (before now : ℕ)
    → Generates n old new bank tally status → SinkCount before now status → (Rose before now → ⊥) → (status_code status ≡ 0) ⊎ (status_code status ≡ 5)
settles_summed n old new bank tally Done before now generates count calm = inl refl
settles_summed n old new bank tally Refused before now generates count calm = absurd generates
settles_summed n old new bank tally Usage before now generates count calm = absurd generates
settles_summed n old new bank tally ReadFault before now generates count calm = absurd generates
settles_summed n old new bank tally WriteFault before now generates count calm = absurd (calm count)
settles_summed n old new bank tally OutOfMemory before now generates count calm = inr refl
