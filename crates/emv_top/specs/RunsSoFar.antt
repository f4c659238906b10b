-- A run in its course: what a world stands for, and what the sink got of it so far.
use Rattle.std.specs.Prelude.{◌≡◌, ◌⊎◌, ⊤, ℕ, ◌+◌, Bool, List, [], ◌++◌, slice_get, Some, Result, OnOk, OnErr, if◌then◌else◌}
use Rattle.std.specs.List.{All, flat_map}
use Rattle.std.specs.declared.option.Option.{Option}
use Rattle.std.specs.Io.KnownBytes.{Appends}
use Rattle.emv_ports.specs.Growth.{AppendsFront}
use Rattle.emv_top.specs.Stops.{HasStop}
use Rattle.emv_top.specs.Texts.{text_of_lines}
use Rattle.emv_top.specs.declared.stop.Stop.{Stop}
use Rattle.report_text.specs.Told.{HasLineBytes}
use Rattle.report_text.specs.declared.line.Line.{Line}
use Rattle.scenario_plan.specs.Plan.{ScenarioData, IsScenario}
use Rattle.txn_replay.specs.Reading.{ReadReached, ReadRun, is_read, data_at, ending_at, read_lines, without_end}
use Rattle.txn_replay.specs.Run.{RunPlace, Scheduled, Round, Settling, Auditing, Finished, Reached, Run, closing}
use Rattle.txn_replay.specs.Steps.{Settlement, Check, settlements, checks, Step}
use Rattle.txn_replay.specs.World.{World}
use Rattle.txn_replay.specs.declared.event.Event.{Event}
use Rattle.txn_replay.specs.declared.event.Event.TheVariants.{Turn, Settle, Audit}
use Rattle.txn_replay.specs.Seen.{WorldSeen, WorldStands, EventHasLed}

-- how a run is defined: so many events, with these truth values, make these lines and lead to this world
abbrev pub RunDefinition : Type 1
RunDefinition = ℕ → List Bool → List Line → World → Type 0

-- and these lines follow where those are all the events of the run
abbrev pub Ends : Type 1
Ends = ℕ → List Bool → List Line → World → List Line → Type 0

-- the lines behind the events
abbrev pub tail_at : ScenarioData → RunPlace → World → List Line
tail_at s (Scheduled k) w = []
tail_at s (Round l) w = []
tail_at s (Settling k) w = []
tail_at s (Auditing k) w = []
tail_at s Finished w = closing s w

abbrev pub Replays : ScenarioData → Ends
Replays s n choices lines w tail = (place : RunPlace) × Reached s place n choices lines w × (tail ≡ tail_at s place w)

-- a whole run whose lines have bytes that are bytes
abbrev pub RunOfBytes : ScenarioData → List Line → World → Type 0
RunOfBytes s lines w = Run s lines w × All HasLineBytes lines

-- a whole reading whose lines have bytes that are bytes
abbrev pub ReadOfBytes : ScenarioData → List Line → World → Type 0
ReadOfBytes s lines w = ReadRun s lines w × All HasLineBytes lines

-- the lines behind a reading's events
abbrev pub read_tail : ScenarioData → World → List Line
read_tail s w = (if is_read s w then read_lines (data_at s w 0) (ending_at w 0) else [])

abbrev pub ReadsLane : ScenarioData → Ends
ReadsLane s n choices lines w tail = ReadReached s n choices lines w × (tail ≡ read_tail s w)

-- what is shown of an event's lines: in a reading no end line
abbrev pub all_lines : List Line → List Line
all_lines lines = lines

abbrev pub shown_lines : List Line → List Line
shown_lines lines = flat_map without_end lines

-- some events were made, and their lines, with bytes that are bytes, were appended to what the sink held first
pub record IsRunSoFar (course : RunDefinition) (holds : World → Type 0) (first held : Option (List ℕ)) : Type 0 where
  pub count : ℕ
  pub choices : List Bool
  pub lines : List Line
  pub world : World
  pub reached : course count choices lines world
  pub stands : holds world
  pub bytes : All HasLineBytes lines
  pub written : Appends first held (text_of_lines lines)

-- the run without its last event, which leads from there to its world: these lines are those of the earlier events, and of
-- the last one the others are shown
pub record IsOneLess (s : ScenarioData) (shown : List Line → List Line) (ends : Ends) (count : ℕ) (choices : List Bool) (before last : List Line)
    (w : World) : Type 0 where
  pub number : ℕ
  pub earlier : List Bool
  pub world : World
  pub tail : List Line
  pub reached : ends number earlier before world tail
  pub event : Event
  pub taken : List Bool
  pub made : List Line
  pub step : Step s world event taken made w
  pub next : number + 1 ≡ count
  pub joined : earlier ++ taken ≡ choices
  pub told : shown made ≡ last

-- some events were made, and a front of the text of their lines and of those behind them was appended, which lacks at
-- most the lines of the last event and those behind all events
pub record RunWasStopped (s : ScenarioData) (shown : List Line → List Line) (ends : Ends) (holds : World → Type 0) (first held : Option (List ℕ))
    : Type 0 where
  pub count : ℕ
  pub choices : List Bool
  pub before : List Line
  pub last : List Line
  pub tail : List Line
  pub world : World
  pub reached : ends count choices (before ++ last) world tail
  pub stands : holds world
  pub bytes : All HasLineBytes (before ++ last)
  pub one_less : (last ≡ []) ⊎ IsOneLess s shown ends count choices before last world
  pub front : List ℕ
  pub rest : List ℕ
  pub splits : front ++ rest ≡ text_of_lines last ++ text_of_lines tail
  pub written : Appends first held (text_of_lines before ++ front)

-- whatever the sink held first, a run that had come here has come there
abbrev pub RunGoesOn : WorldSeen → WorldSeen → Option (List ℕ) → Option (List ℕ) → RunDefinition → RunDefinition → Type 0
RunGoesOn v after old new here there =
    (first : Option (List ℕ)) → IsRunSoFar here (WorldStands v) first old → IsRunSoFar there (WorldStands after) first new

-- or has stopped
abbrev pub RunStops : WorldSeen → WorldSeen → Option (List ℕ) → Option (List ℕ) → RunDefinition → ScenarioData → Type 0
RunStops v after old new here s =
    (first : Option (List ℕ)) → IsRunSoFar here (WorldStands v) first old → RunWasStopped s all_lines (Replays s) (WorldStands after) first new

-- what is played: a scenario by its rules
pub record IsPlayed (s : ScenarioData) (v : WorldSeen) : Type 0 where
  pub rules : IsScenario s
  pub told : v.scenario ≡ s

-- a phase of a run: it leads from one place to another, or stops
pub record Passage {T : Type 0} (s : ScenarioData) (v after : WorldSeen) (old new : Option (List ℕ)) (before now : ℕ) (here there : RunPlace) (result : Result T Stop)
    : Type 0 where
  pub ok : OnOk result (RunGoesOn v after old new (Reached s here) (Reached s there))
  pub err : OnErr result (RunStops v after old new (Reached s here) s)
  pub told : after.scenario ≡ s
  pub stop : HasStop before now result

-- a run has come here
abbrev pub RunHasReached : WorldSeen → Option (List ℕ) → RunDefinition → Type 0
RunHasReached v held here = (first : Option (List ℕ)) × IsRunSoFar here (WorldStands v) first held

-- an event was made, and what is shown of its lines, with bytes that are bytes, was appended
pub record Makes (v : WorldSeen) (w : World) (e : Event) (shown : List Line → List Line) (old new : Option (List ℕ)) : Type 0 where
  pub lines : List Line
  pub goes : EventHasLed v w e lines
  pub bytes : All HasLineBytes lines
  pub written : Appends old new (text_of_lines (shown lines))

-- there is such an event: a message of the settlement, a step of the audit; a lane's exchange may be none
abbrev pub IsThere : ScenarioData → World → Event → Type 0
IsThere s w (Turn l) = ⊤
IsThere s w (Settle k) = (at : Settlement) × (slice_get (settlements s w) k ≡ Some at)
IsThere s w (Audit k) = (check : Check) × (slice_get (checks s) k ≡ Some check)

-- an event was made, and a front of what is shown of its lines was appended
pub record Breaks (s : ScenarioData) (v : WorldSeen) (w : World) (e : Event) (shown : List Line → List Line) (old new : Option (List ℕ)) : Type 0 where
  pub lines : List Line
  pub goes : EventHasLed v w e lines
  pub bytes : All HasLineBytes lines
  pub there : IsThere s w e
  pub front : AppendsFront old new (text_of_lines (shown lines))

-- or nothing was made
abbrev pub MakesNone : ScenarioData → WorldSeen → World → Event → (List Line → List Line) → Option (List ℕ) → Option (List ℕ) → Type 0
MakesNone s v w e shown old new = Breaks s v w e shown old new ⊎ (WorldStands v w × (new ≡ old))

-- what became of an event of these worlds, by what was answered
pub record Happens {T : Type 0} (worlds : World → Type 0) (v after : WorldSeen) (e : Event) (shown : List Line → List Line) (old new : Option (List ℕ)) (before now : ℕ)
    (result : Result T Stop) : Type 0 where
  pub ok : OnOk result ((w : World) → worlds w → Makes after w e shown old new)
  pub err : OnErr result ((w : World) → worlds w → MakesNone v.scenario after w e shown old new)
  pub scenario : after.scenario ≡ v.scenario
  pub stop : HasStop before now result
