-- What answers the words and the bytes.
use Rattle.std.proofs.Common.{◌≡◌, ℕ, zero, suc, List, Option, Some, Ok, Err, refl, sym, ap, ◌∙◌, subst, inl, inr}
use Rattle.emv_ports.specs.Memory.{Memory}
use Rattle.emv_ports.specs.Reading.{ReadsUpTo}
use Rattle.emv_top.specs.Answers.{Answers, AnswersRead, AreSettled, Completes, IsRunCut, IsInputRefused, IsRunWhole, Leaves, Plays, Refuses, ToldReads, ToldReplays}
use Rattle.emv_top.specs.RunsSoFar.{Replays, RunOfBytes, ReadOfBytes, ReadsLane, RunWasStopped, all_lines, shown_lines}
use Rattle.emv_top.specs.Decided.{DecidedRun, RunsAreDecided}
use Rattle.emv_top.specs.Input.{IsInput}
use Rattle.emv_top.specs.StatusCode.{SourceCount, status_code}
use Rattle.emv_top.specs.declared.status.Status.{Status}
use Rattle.emv_top.specs.declared.status.Status.TheVariants.{Done, Refused, Usage, ReadFault, WriteFault, OutOfMemory}
use Rattle.emv_top.specs.declared.words.Task.{Task}
use Rattle.emv_top.specs.declared.words.Task.TheVariants.{Read, Replay}
use Rattle.emv_top.proofs.Going.{stopped_with, completes_with}
use Rattle.emv_top.proofs.LineBytes.{told_lines}
use Rattle.emv_top.proofs.ReadRuns.{read_fair}
use Rattle.emv_top.proofs.ReadSettled.{read_settled, read_calm}
use Rattle.emv_top.proofs.ReadTold.{read_named}
use Rattle.emv_top.proofs.Settled.{run_settled}
use Rattle.kernel.specs.Laws.{ReadingCapturesNothing}
use Rattle.kernel.specs.Tally.{Counts}
use Rattle.scenario_plan.specs.Plan.{ScenarioData, IsScenario}
use Rattle.scenario_fields.specs.Line.{refused_line}
use Rattle.scenario_fields.specs.declared.fault.ScenarioFault.{ScenarioFault}
use Rattle.txn_replay.specs.Asking.{WholeRunsAsk}
use Rattle.txn_replay.specs.Captured.{CapturesAreSent, LostAreTold, WholeRunsTellLost}
use Rattle.txn_replay.specs.Laws.{RunsAreFair, WholeRunsAreFair, IsFair}
use Rattle.txn_replay.specs.Named.{RunsNameCards, WholeRunsNameCards}
use Rattle.txn_replay.specs.Reading.{ReadRun, to_read}
use Rattle.txn_replay.specs.Respelled.{AreMessages, WholeDialectsShow}
use Rattle.txn_replay.specs.Run.{Finished, Run}
use Rattle.txn_replay.specs.StandAlone.{LanesStandAlone}
use Rattle.txn_replay.specs.Stored.{StoresAreEmptied}
use Rattle.txn_replay.specs.ToldByLines.{RunsTellLosses, WholeRunsTellLosses}
use Rattle.txn_replay.specs.World.{World}
use Rattle.txn_replay.specs.Seen.{WorldSeen, WorldStands}

-- in a whole run purchases are decided, commands with their answers and the losses of cards and terminals told, and dialects
-- spelled, and a lane that shares nothing runs as if it were alone; the laws are kept, and no decision is open
pub decided_whole : (s : ScenarioData) (v : WorldSeen) (old new : Option (List ℕ)) → WholeRunsAreFair → RunsAreDecided → WholeRunsNameCards → WholeRunsAsk → WholeRunsTellLosses
    → WholeRunsTellLost → WholeDialectsShow → CapturesAreSent → StoresAreEmptied → LanesStandAlone
    → ((w : World) → WorldStands v w → AreMessages w) → IsScenario s → Completes (RunOfBytes s) (WorldStands v) old new
    → Completes (DecidedRun s) (λ w. WorldStands v w × IsFair s w × AreSettled s w) old new
decided_whole s v old new law decides names asked losses lost dialects captures emptied alone messages fits whole =
    let run : Run s whole.lines whole.world = whole.run.0 in
    record {
      lines = whole.lines;
      world = whole.world;
      run = record {
        run = run;
        decided = decides s Finished run.count run.choices run.reported whole.world run.reached fits;
        told = told_lines whole.lines whole.run.1 (names s whole.lines whole.world fits run);
        commands = asked s whole.lines whole.world run;
        losses = losses s whole.lines whole.world fits run;
        lost = lost s whole.lines whole.world run;
        dialects = λ iso.
            (let other = dialects s iso whole.lines whole.world fits run (messages whole.world whole.stands) in record { others = other.0; run = other.1; respelled = other.2 });
        captures = λ l on. captures s whole.lines whole.world l fits.tables.one_copy on run;
        emptied = λ l on. emptied s Finished run.count run.choices run.reported whole.world l on fits.tables.one_copy run.reached (inl refl);
        alone = λ pans l apart. alone pans s l whole.lines whole.world fits apart run;
      };
      stands = (whole.stands, law s whole.lines whole.world run, run_settled s run.count run.choices run.reported whole.world run.reached);
      written = whole.written;
    }

-- what a world leaves, in the scenario's words
module _ (s : ScenarioData) (v : WorldSeen) (told : v.scenario ≡ s) (old new : Option (List ℕ)) (bank : List Memory) (tally : Counts)
    (leaves : (w : World) → WorldStands v w → IsFair v.scenario w → Leaves v.scenario bank tally w) where
  left : (w : World) → WorldStands v w → IsFair s w → Leaves s bank tally w
  left = subst (λ (t : ScenarioData). (w : World) → WorldStands v w → IsFair t w → Leaves t bank tally w) told leaves

  pub whole_replay : Completes (DecidedRun s) (λ w. WorldStands v w × IsFair s w × AreSettled s w) old new → IsRunWhole Replay s old new bank tally
  whole_replay whole =
      completes_with (DecidedRun s) (λ w. WorldStands v w × IsFair s w × AreSettled s w) (λ w. Leaves s bank tally w × AreSettled s w) old new
      (λ ls w run stands. (left w stands.0 stands.1, stands.2)) whole

  pub cut_replay : RunsAreFair → RunsNameCards → RunsTellLosses → LostAreTold → IsScenario s → RunWasStopped s all_lines (Replays s) (WorldStands v) old new → IsRunCut Replay s old new bank tally
  cut_replay law names losses lost fits stopped =
      stopped_with s all_lines (Replays s) (ToldReplays s) (WorldStands v) (Leaves s bank tally) old new
      (λ n cs ls w tail bytes ends. (
        ends,
        losses s ends.0 n cs ls w fits ends.1,
        lost s ends.0 n cs ls w ends.1,
        told_lines ls bytes (names s ends.0 n cs ls w fits ends.1),
      ))
      (λ n cs ls w tail ends stands. left w stands (law s ends.0 n cs ls w ends.1)) stopped

  pub whole_reading : (whole : ScenarioData) → s ≡ to_read whole → IsScenario s → RunsAreFair → ReadingCapturesNothing → Completes (ReadOfBytes whole) (WorldStands v) old new → IsRunWhole Read whole old new bank tally
  whole_reading whole same fits law nothing completes =
      let run : ReadRun whole completes.lines completes.world = completes.run.0 in
      record {
        lines = completes.lines;
        world = completes.world;
        run = read_calm whole nothing (subst IsScenario same fits) completes.lines completes.world run completes.run.1;
        stands = (
          subst (λ (t : ScenarioData). Leaves t bank tally completes.world) same
              (left completes.world completes.stands
              (subst (λ (t : ScenarioData). IsFair t completes.world) (sym same)
              (read_fair law (to_read whole) run.count run.choices run.reported completes.world run.reached))),
          read_settled whole run.count run.choices run.reported completes.world run.reached,
        );
        written = completes.written;
      }

  pub cut_reading : (whole : ScenarioData) → s ≡ to_read whole → IsScenario s → RunsAreFair → RunWasStopped s shown_lines (ReadsLane s) (WorldStands v) old new
      → IsRunCut Read whole old new bank tally
  cut_reading whole same fits law stopped =
      subst (λ (t : ScenarioData). RunWasStopped t shown_lines (ToldReads t) (Leaves t bank tally) old new) same
      (stopped_with s shown_lines (ReadsLane s) (ToldReads s) (WorldStands v) (Leaves s bank tally) old new
      (λ n cs ls w tail bytes ends. (ends, told_lines ls bytes (read_named s fits n cs ls w ends.0)))
      (λ n cs ls w tail ends stands. left w stands (read_fair law s n cs ls w ends.0)) stopped)

-- the bytes are a scenario's
module _ (task : Task) (bytes : List ℕ) (old new : Option (List ℕ)) (bank : List Memory) (tally : Counts) where
  pub accepted : (s : ScenarioData) (status : Status) → IsInput task bytes (Ok s) → Plays task s old new bank tally status → Answers task bytes old new bank tally status
  accepted s Done input plays = (s, input, plays)
  accepted s Refused input plays = absurd plays
  accepted s Usage input plays = absurd plays
  accepted s ReadFault input plays = absurd plays
  accepted s WriteFault input plays = inl (s, input, plays)
  accepted s OutOfMemory input (inl unmade) = inl unmade
  accepted s OutOfMemory input (inr cut) = inr (s, input, cut)

  refusal : (fault : ScenarioFault) (line : List ℕ) → IsInput task bytes (Err fault) → refused_line fault ≡ Some line → IsInputRefused task bytes line
  refusal fault line input told = record { fault = fault; input = input; told = told }

  pub refused : (fault : ScenarioFault) (status : Status) → IsInput task bytes (Err fault) → Refuses fault old new bank tally status → Answers task bytes old new bank tally status
  refused fault Done input refuses = absurd refuses
  refused fault Refused input refuses = (refuses.0, refusal fault refuses.0 input refuses.1, refuses.2, refuses.3)
  refused fault Usage input refuses = absurd refuses
  refused fault ReadFault input refuses = absurd refuses
  refused fault WriteFault input refuses = inr (refuses.0, refusal fault refuses.0 input refuses.1, refuses.2, refuses.3)
  refused fault OutOfMemory input refuses = inl refuses

  pub was_read : (status : Status) (left after : Option (List ℕ)) → ReadsUpTo 4194305 left after bytes → Answers task bytes old new bank tally status
      → AnswersRead task left after old new bank tally status
  was_read Done left after reads answers = (bytes, reads, answers)
  was_read Refused left after reads answers = (bytes, reads, answers)
  was_read Usage left after reads answers = absurd answers
  was_read ReadFault left after reads answers = absurd answers
  was_read WriteFault left after reads answers = (bytes, reads, answers)
  was_read OutOfMemory left after reads (inl unmade) = inl unmade
  was_read OutOfMemory left after reads (inr cut) = inr (bytes, reads, cut)

  pub no_read_fault : (status : Status) → Answers task bytes old new bank tally status → status ≡ ReadFault → ⊥
  no_read_fault Done answers is = cc
  no_read_fault Refused answers is = cc
  no_read_fault Usage answers is = cc
  no_read_fault ReadFault answers is = answers
  no_read_fault WriteFault answers is = cc
  no_read_fault OutOfMemory answers is = cc

  -- where the source was read to its end, its count stays
  pub source_stays : (before now : ℕ) (status : Status) → Answers task bytes old new bank tally status → now ≡ before → SourceCount before now status
  source_stays before now Done answers same = same
  source_stays before now Refused answers same = same
  source_stays before now Usage answers same = same
  source_stays before now ReadFault answers same = absurd answers
  source_stays before now WriteFault answers same = same
  source_stays before now OutOfMemory answers same = same

-- a code is that of one status
abbrev status_at : ℕ → Status
status_at zero = Done
status_at (suc zero) = Refused
status_at (suc (suc zero)) = Usage
status_at (suc (suc (suc zero))) = ReadFault
status_at (suc (suc (suc (suc zero)))) = WriteFault
status_at (suc (suc (suc (suc (suc more))))) = OutOfMemory

back : (status : Status) → status_at (status_code status) ≡ status
back Done = refl
back Refused = refl
back Usage = refl
back ReadFault = refl
back WriteFault = refl
back OutOfMemory = refl

pub by_code : (one two : Status) → status_code one ≡ status_code two → one ≡ two
by_code one two same = sym (back one) ∙ ap status_at same ∙ back two
