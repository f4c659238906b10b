-- The purchases of a run that come to a decision: those that began with a well-formed card with applications and have no
-- tear, neither of the card nor of the terminal; and what else is known of a whole run.
use Rattle.std.specs.Prelude.{◌≡◌, ℕ, Bool, true, List, slice_get, Option, Some, None}
use Rattle.std.specs.List.{All}
use Rattle.card_state.specs.Decisions.{Decided}
use Rattle.dialogue_laws.specs.UncutPurchase.{IsDecided}
use Rattle.dialogue_laws.specs.WellFormed.{WellFormed}
use Rattle.kernel.specs.Ended.{EndData}
use Rattle.report_text.specs.Told.{IsTold}
use Rattle.report_text.specs.declared.line.Line.{Line}
use Rattle.scenario_plan.specs.Plan.{ScenarioData, IsScenario}
use Rattle.txn_replay.specs.Asking.{AreAsked}
use Rattle.txn_replay.specs.Captured.{AreSent, AreLostAsTold}
use Rattle.txn_replay.specs.Payment.{Payment, payment_in, dialect_of, durable_of, outset_for}
use Rattle.txn_replay.specs.Respelled.{AreRespelled, in_dialects}
use Rattle.txn_replay.specs.Run.{RunPlace, Reached, Run}
use Rattle.txn_replay.specs.StandAlone.{IsApart, RunsAlone}
use Rattle.txn_replay.specs.Stored.{IsEmptied}
use Rattle.txn_replay.specs.ToldByLines.{HasLosses}
use Rattle.txn_replay.specs.World.{Past, World, lane_at}

-- its end record says so
abbrev pub EndsDecided : Option EndData → Type 0
EndsDecided None = ⊥
EndsDecided (Some end) = IsDecided end.ending

-- the purchase of this number in a lane ended so: if no tear was planned for it or for its terminal and its card has
-- applications, the power-up of the card was completed, and where the card was well-formed with the decisions found then, it is
-- approved or declined
abbrev pub IsDecidedAt : ScenarioData → ℕ → ℕ → Past → Type 0
IsDecidedAt s l number past =
    (p : Payment) → payment_in s l number ≡ Some p → p.planned.tear ≡ None → p.planned.terminal_tear ≡ None → p.card.canned ≡ None
    → (found : List Decided) × (past.began ≡ Some found) × (WellFormed p.card.image (outset_for p) found → EndsDecided past.end)

abbrev pub AreDecided : ScenarioData → World → Type 0
AreDecided s w = (l number : ℕ) (past : Past) → slice_get (lane_at w l).ended number ≡ Some past → IsDecidedAt s l number past

-- of every world that a run comes to
abbrev pub RunsAreDecided : Type 0
RunsAreDecided =
    (s : ScenarioData) (place : RunPlace) (n : ℕ) (choices : List Bool) (lines : List Line) (w : World)
    → Reached s place n choices lines w → IsScenario s → AreDecided s w

-- a whole run with these lanes in other dialects, which leads to the same world
pub record RunInDialects (s : ScenarioData) (iso : ℕ → Bool) (lines : List Line) (w : World) : Type 0 where
  pub others : List Line
  pub run : Run (in_dialects iso s) others w
  pub respelled : AreRespelled (dialect_of s) (dialect_of (in_dialects iso s)) lines others

-- a whole run: its purchases are decided, the texts of its lines tell them, each command in them is what the dialogue asks
-- there and the line behind it its answer, they tell how often each card lost its power and each terminal a purchase, in other
-- dialects of its lanes it differs in the spelling of messages and replies alone, each store has sent its captures and is empty,
-- and a lane that shares no card and no account with others ran as if it were alone
pub record DecidedRun (s : ScenarioData) (lines : List Line) (w : World) : Type 0 where
  pub run : Run s lines w
  pub decided : AreDecided s w
  pub told : All IsTold lines
  pub commands : AreAsked s lines
  pub losses : HasLosses s lines w
  pub lost : AreLostAsTold lines w
  pub dialects : (iso : ℕ → Bool) → RunInDialects s iso lines w
  pub captures : (l : ℕ) → durable_of s l ≡ true → AreSent s lines w l
  pub emptied : (l : ℕ) → durable_of s l ≡ true → IsEmptied (lane_at w l).store
  pub alone : (pans : List ℕ → Bool) (l : ℕ) → IsApart pans s l w → RunsAlone pans s l lines w run
