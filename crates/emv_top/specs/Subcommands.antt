-- What answers the words of the command line: the usage line, or what becomes of the subcommand that they ask for.
use Rattle.std.specs.Prelude.{◌≡◌, ◌≢◌, ⊤, ℕ, List, Option, Some, None, Ok}
use Rattle.emv_ports.specs.Memory.{Memory}
use Rattle.emv_ports.specs.Reading.{ReadsUpTo}
use Rattle.emv_top.specs.Answers.{AnswersRead, TellsUsage, Unbegun}
use Rattle.emv_top.specs.Checking.{ChecksRead}
use Rattle.emv_top.specs.Generating.{Generates}
use Rattle.emv_top.specs.Input.{IsInput}
use Rattle.emv_top.specs.declared.status.Status.{Status}
use Rattle.emv_top.specs.declared.words.Task.{Task}
use Rattle.emv_top.specs.declared.words.Subcommand.{Subcommand}
use Rattle.emv_top.specs.declared.words.Subcommand.TheVariants.{Play, Generate, Check}
use Rattle.kernel.specs.Tally.{Counts}
use Rattle.scenario_plan.specs.Plan.{ScenarioData}
use Rattle.trace_check.specs.Document.{ReadsTrace, TraceData}

-- what the call did: what the source had left before and behind it, what the sink held before and behind it, and the pages and
-- the tally that it leaves
pub record Effects : Type 0 where
  pub left : Option (List ℕ)
  pub after : Option (List ℕ)
  pub held : Option (List ℕ)
  pub holds : Option (List ℕ)
  pub pages : List Memory
  pub tally : Counts

-- what becomes of the words, by the status that tells it
abbrev pub Fulfils : Option Subcommand → Effects → Status → Type 0
Fulfils None e status = TellsUsage e.held e.holds e.pages e.tally status
Fulfils (Some (Play task)) e status = AnswersRead task e.left e.after e.held e.holds e.pages e.tally status
Fulfils (Some (Generate purchases)) e status = Generates purchases e.held e.holds e.pages e.tally status
-- no card takes part in a check
Fulfils (Some Check) e status = ChecksRead e.left e.after e.held e.holds status × Unbegun e.pages e.tally

-- the source, whose bytes are known, gave those of a scenario that the task is served with
pub record GaveScenario (task : Task) (left after : Option (List ℕ)) : Type 0 where
  pub bytes : List ℕ
  pub scenario : ScenarioData
  pub known : left ≢ None
  pub reads : ReadsUpTo 4194305 left after bytes
  pub input : IsInput task bytes (Ok scenario)

-- or those of a trace
pub record GaveTrace (left after : Option (List ℕ)) : Type 0 where
  pub bytes : List ℕ
  pub trace : TraceData
  pub known : left ≢ None
  pub reads : ReadsUpTo 4194305 left after bytes
  pub input : ReadsTrace bytes (Ok trace)

-- the source gave what a subcommand reads
abbrev pub SourceGives : Subcommand → Option (List ℕ) → Option (List ℕ) → Type 0
SourceGives (Play task) left after = GaveScenario task left after
SourceGives (Generate purchases) left after = ⊤
SourceGives Check left after = GaveTrace left after
