-- The names of cards in the lines of a run (this project's own).
use Rattle.std.specs.Prelude.{ℕ, Bool, List}
use Rattle.std.specs.List.{All}
use Rattle.report_text.specs.Told.{card_named, IsCardName}
use Rattle.report_text.specs.declared.line.Line.{Line}
use Rattle.scenario_plan.specs.Plan.{ScenarioData, IsScenario}
use Rattle.txn_replay.specs.Run.{RunPlace, Reached, Run}
use Rattle.txn_replay.specs.World.{World}

-- each of these lines that names a card has a name without a blank and without a character before it
abbrev pub AreNamed : List Line → Type 0
AreNamed lines = All (λ line. IsCardName (card_named line)) lines

-- in every run each line that names a card names it so
abbrev pub RunsNameCards : Type 0
RunsNameCards =
    (s : ScenarioData) (place : RunPlace) (n : ℕ) (choices : List Bool) (lines : List Line) (w : World)
    → IsScenario s → Reached s place n choices lines w → AreNamed lines

-- so it is of whole runs
abbrev pub WholeRunsNameCards : Type 0
WholeRunsNameCards = (s : ScenarioData) (lines : List Line) (w : World) → IsScenario s → Run s lines w → AreNamed lines
