-- What answers the bytes that were read: the text, the pages and the tally of one run, or the line of a fault.
use Rattle.std.specs.Prelude.{◌≡◌, ◌⊎◌, ℕ, List, count_by, length, slice_get, Option, Some, None, Ok, Err}
use Rattle.std.specs.List.{All}
use Rattle.std.specs.Io.KnownBytes.{Appends}
use Rattle.emv_ports.specs.Growth.{AppendsFront}
use Rattle.emv_ports.specs.Memory.{Memory, IsBlank}
use Rattle.emv_ports.specs.Reading.{ReadsUpTo}
use Rattle.emv_top.specs.RunsSoFar.{Ends, Replays, ReadsLane, RunWasStopped, all_lines, shown_lines}
use Rattle.emv_top.specs.Decided.{DecidedRun}
use Rattle.emv_top.specs.Input.{IsInput}
use Rattle.emv_top.specs.Texts.{text_of_lines}
use Rattle.emv_top.specs.Words.{usage_line}
use Rattle.emv_top.specs.declared.status.Status.{Status}
use Rattle.emv_top.specs.declared.status.Status.TheVariants.{Done, Refused, Usage, ReadFault, WriteFault, OutOfMemory}
use Rattle.emv_top.specs.declared.words.Task.{Task}
use Rattle.emv_top.specs.declared.words.Task.TheVariants.{Read, Replay}
use Rattle.kernel.specs.Tally.{Counts}
use Rattle.report_text.specs.Told.{IsTold}
use Rattle.report_text.specs.declared.line.Line.{Line}
use Rattle.scenario_plan.specs.Cards.{CardData}
use Rattle.scenario_plan.specs.Plan.{ScenarioData}
use Rattle.scenario_fields.specs.Line.{refused_line}
use Rattle.scenario_fields.specs.declared.fault.ScenarioFault.{ScenarioFault}
use Rattle.txn_replay.specs.Captured.{AreLostAsTold}
use Rattle.txn_replay.specs.Counting.{counts, lost_count}
use Rattle.txn_replay.specs.Laws.{IsFair, is_torn}
use Rattle.txn_replay.specs.Reading.{ReadRun, to_read}
use Rattle.txn_replay.specs.Stored.{IsEmptied}
use Rattle.txn_replay.specs.ToldByLines.{HasLosses}
use Rattle.txn_replay.specs.World.{World, card_at, lane_at}
use Rattle.txn_replay.specs.Seen.{BankStands}

-- no purchase has ended
abbrev pub no_counts : Counts
no_counts = record { approved = 0; declined = 0; other = 0; replies = 0 }

-- before a world is made
pub record Unbegun (bank : List Memory) (tally : Counts) : Type 0 where
  pub pages : length bank ≡ 64
  pub blank : All IsBlank bank
  pub none : tally ≡ no_counts

-- what a run that has led to this world leaves: the pages of each card with applications stand for its decisions, those of
-- each lane's store for its list, all others are blank, the tally counts the ended purchases, and the world keeps to the laws
-- of runs
pub record Leaves (s : ScenarioData) (bank : List Memory) (tally : Counts) (w : World) : Type 0 where
  pub pages : length bank ≡ 64
  pub bank_stands : BankStands s w bank
  pub counted : tally ≡ counts w
  pub fair : IsFair s w

-- no card has a decision that may be kept or not, so that its pages stand for the decisions that it kept
abbrev pub AreSettled : ScenarioData → World → Type 0
AreSettled s w = (i : ℕ) (card : CardData) → slice_get s.cards i ≡ Some card → (card_at w i).pending ≡ None

-- a whole run was made, and the text of its lines was appended
pub record Completes (runs : List Line → World → Type 0) (holds : World → Type 0) (old new : Option (List ℕ)) : Type 0 where
  pub lines : List Line
  pub world : World
  pub run : runs lines world
  pub stands : holds world
  pub written : Appends old new (text_of_lines lines)

-- a run that was cut: its lines tell how often each card lost its power, and each terminal a purchase, and their texts tell
-- them
abbrev pub ToldReplays : ScenarioData → Ends
ToldReplays s n choices lines w tail = Replays s n choices lines w tail × HasLosses s lines w × AreLostAsTold lines w × All IsTold lines

-- a reading that was cut: the texts of its lines tell them
abbrev pub ToldReads : ScenarioData → Ends
ToldReads s n choices lines w tail = ReadsLane s n choices lines w tail × All IsTold lines

-- a card was read: the texts of its lines tell them, no card lost its power, and no line tells that one did; no terminal lost a
-- purchase, and each store is empty
pub record CalmReading (s : ScenarioData) (lines : List Line) (w : World) : Type 0 where
  pub run : ReadRun s lines w
  pub told : All IsTold lines
  pub losses : (i : ℕ) → (card_at w i).losses ≡ 0
  pub untold : count_by is_torn lines ≡ 0
  pub kept : (l : ℕ) → lost_count (lane_at w l).ended ≡ 0
  pub emptied : (l : ℕ) → IsEmptied (lane_at w l).store

-- the runs that a task asks for, and the scenario whose cards, lanes and host they are of: in a whole run each purchase
-- with a well-formed card is decided, and a card is read without its purchase's tear
abbrev pub runs_of : Task → ScenarioData → List Line → World → Type 0
runs_of Read s = CalmReading s
runs_of Replay s = DecidedRun s

abbrev pub played : Task → ScenarioData → ScenarioData
played Read s = to_read s
played Replay s = s

abbrev pub ends_of : Task → ScenarioData → Ends
ends_of Read s = ToldReads (to_read s)
ends_of Replay s = ToldReplays s

abbrev pub shown_of : Task → List Line → List Line
shown_of Read = shown_lines
shown_of Replay = all_lines

abbrev pub IsRunWhole : Task → ScenarioData → Option (List ℕ) → Option (List ℕ) → List Memory → Counts → Type 0
IsRunWhole task s old new bank tally = Completes (runs_of task s) (λ w. Leaves (played task s) bank tally w × AreSettled s w) old new

abbrev pub IsRunCut : Task → ScenarioData → Option (List ℕ) → Option (List ℕ) → List Memory → Counts → Type 0
IsRunCut task s old new bank tally = RunWasStopped (played task s) (shown_of task) (ends_of task s) (Leaves (played task s) bank tally) old new

-- nothing was written, and nothing begun
abbrev pub IsUnmade : Option (List ℕ) → Option (List ℕ) → List Memory → Counts → Type 0
IsUnmade old new bank tally = (new ≡ old) × Unbegun bank tally

-- what becomes of a scenario, by the status that tells it
abbrev pub Plays : Task → ScenarioData → Option (List ℕ) → Option (List ℕ) → List Memory → Counts → Status → Type 0
Plays task s old new bank tally Done = IsRunWhole task s old new bank tally
Plays task s old new bank tally Refused = ⊥
Plays task s old new bank tally Usage = ⊥
Plays task s old new bank tally ReadFault = ⊥
Plays task s old new bank tally WriteFault = IsRunCut task s old new bank tally
Plays task s old new bank tally OutOfMemory = IsUnmade old new bank tally ⊎ IsRunCut task s old new bank tally

-- the bytes are a scenario's
abbrev pub IsScenarioRead : Task → List ℕ → (ScenarioData → Type 0) → Type 0
IsScenarioRead task bytes becomes = (s : ScenarioData) × IsInput task bytes (Ok s) × becomes s

-- or they have a fault, with this line
pub record IsInputRefused (task : Task) (bytes : List ℕ) (line : List ℕ) : Type 0 where
  pub fault : ScenarioFault
  pub input : IsInput task bytes (Err fault)
  pub told : refused_line fault ≡ Some line

-- a fault, whose line is written, or a front of it; want of memory has no line
abbrev pub Refuses : ScenarioFault → Option (List ℕ) → Option (List ℕ) → List Memory → Counts → Status → Type 0
Refuses fault old new bank tally Done = ⊥
Refuses fault old new bank tally Refused = (line : List ℕ) × (refused_line fault ≡ Some line) × Appends old new line × Unbegun bank tally
Refuses fault old new bank tally Usage = ⊥
Refuses fault old new bank tally ReadFault = ⊥
Refuses fault old new bank tally WriteFault = (line : List ℕ) × (refused_line fault ≡ Some line) × AppendsFront old new line × Unbegun bank tally
Refuses fault old new bank tally OutOfMemory = IsUnmade old new bank tally

-- a run of the scenario was cut, or the line of the fault
abbrev pub IsOutputCut : Task → List ℕ → Option (List ℕ) → Option (List ℕ) → List Memory → Counts → Type 0
IsOutputCut task bytes old new bank tally =
    IsScenarioRead task bytes (λ s. IsRunCut task s old new bank tally)
    ⊎ ((line : List ℕ) × IsInputRefused task bytes line × AppendsFront old new line × Unbegun bank tally)

-- what becomes of the bytes
abbrev pub Answers : Task → List ℕ → Option (List ℕ) → Option (List ℕ) → List Memory → Counts → Status → Type 0
Answers task bytes old new bank tally Done = IsScenarioRead task bytes (λ s. IsRunWhole task s old new bank tally)
Answers task bytes old new bank tally Refused = (line : List ℕ) × IsInputRefused task bytes line × Appends old new line × Unbegun bank tally
Answers task bytes old new bank tally Usage = ⊥
Answers task bytes old new bank tally ReadFault = ⊥
Answers task bytes old new bank tally WriteFault = IsOutputCut task bytes old new bank tally
Answers task bytes old new bank tally OutOfMemory =
    IsUnmade old new bank tally ⊎ IsScenarioRead task bytes (λ s. IsRunCut task s old new bank tally)

-- want of memory: nothing was begun, or a run was cut
abbrev pub IsStarved : Task → Option (List ℕ) → Option (List ℕ) → Option (List ℕ) → Option (List ℕ) → List Memory → Counts → Type 0
IsStarved task left after old new bank tally =
    IsUnmade old new bank tally
    ⊎ ((bytes : List ℕ) × ReadsUpTo 4194305 left after bytes × IsScenarioRead task bytes (λ s. IsRunCut task s old new bank tally))

-- what becomes of the source's bytes
abbrev pub AnswersRead : Task → Option (List ℕ) → Option (List ℕ) → Option (List ℕ) → Option (List ℕ) → List Memory → Counts → Status → Type 0
-- 0: they are a scenario's, and of one run of it the sink got the text of its lines, the pages stand for its cards' decisions
-- and its stores' lists, and the tally is its count. No counter serves two purchases, power-ups find prefixes, and no
-- transaction is booked twice. In a whole run each purchase without a tear whose card has applications and was well-formed at
-- its power-up is approved or declined, the lines tell what cards and terminals lost, of a lane that keeps its captures durably
-- those that weren't lost are sent, and its store is empty, and a lane that shares no card and no account with others runs as if
-- it were alone. In a reading nothing is lost, and each store is empty.
AnswersRead task left after old new bank tally Done = (bytes : List ℕ) × ReadsUpTo 4194305 left after bytes × Answers task bytes old new bank tally Done
-- 1: they are refused, and the sink got the line of that very fault; nothing was begun
AnswersRead task left after old new bank tally Refused = (bytes : List ℕ) × ReadsUpTo 4194305 left after bytes × Answers task bytes old new bank tally Refused
-- 2: only words that aren't in the grammar
AnswersRead task left after old new bank tally Usage = ⊥
-- 3: the source failed, and nothing was written or begun
AnswersRead task left after old new bank tally ReadFault = IsUnmade old new bank tally
-- 4: the sink failed, and got a front of a refusal's line, or of the lines of a run up to some event, which lacks at most those
-- of that event and those behind all events
AnswersRead task left after old new bank tally WriteFault =
    (bytes : List ℕ) × ReadsUpTo 4194305 left after bytes × IsOutputCut task bytes old new bank tally
-- 5: there was no memory: before anything began, or in a run, of whose lines a front was written as for 4
AnswersRead task left after old new bank tally OutOfMemory = IsStarved task left after old new bank tally

-- the usage line, or a front of it
abbrev pub TellsUsage : Option (List ℕ) → Option (List ℕ) → List Memory → Counts → Status → Type 0
TellsUsage old new bank tally Done = ⊥
TellsUsage old new bank tally Refused = ⊥
-- 2: nothing was begun
TellsUsage old new bank tally Usage = Appends old new usage_line × Unbegun bank tally
TellsUsage old new bank tally ReadFault = ⊥
TellsUsage old new bank tally WriteFault = AppendsFront old new usage_line × Unbegun bank tally
TellsUsage old new bank tally OutOfMemory = ⊥
