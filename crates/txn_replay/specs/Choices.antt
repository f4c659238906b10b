-- Where no tear leaves a choice, a scenario has one run (this project's own).
use Rattle.std.specs.Prelude.{◌≡◌, ℕ, ◌==◌, ◌&&◌, not, Bool, true, false, List, Option, Some, None}
use Rattle.emv_ports.specs.declared.tear.Tear.{Tear}
use Rattle.emv_ports.specs.declared.tear.TearAt.{TearAt}
use Rattle.emv_ports.specs.declared.tear.TearAt.TheVariants.{Before, Within, Release}
use Rattle.report_text.specs.declared.line.Line.{Line}
use Rattle.scenario_plan.specs.Plan.{ScenarioData, IsScenario}
use Rattle.txn_replay.specs.Payment.{Payment, payment_in}
use Rattle.txn_replay.specs.Run.{RunPlace, Reached, Run}
use Rattle.txn_replay.specs.World.{World, card_at, lane_at}

-- nothing of a decision or a call that is cut before its first write is left, and one whose release is cut is kept
abbrev pub leaves_open : TearAt → Bool
leaves_open (Before number) = not (number == 1)
leaves_open (Within number) = true
leaves_open Release = false

-- a tear of the power-up, or of an opening, cuts none
abbrev pub leaves_choice : Option Tear → Bool
leaves_choice None = false
leaves_choice (Some tear) = not (tear.commit == 0) && leaves_open tear.at

-- neither the tear of its card nor that of its terminal leaves one
pub record HasNoChoice (p : Payment) : Type 0 where
  pub card : leaves_choice p.planned.tear ≡ false
  pub terminal : leaves_choice p.planned.terminal_tear ≡ false

abbrev pub LeavesNone : ScenarioData → Type 0
LeavesNone s = (l number : ℕ) (p : Payment) → payment_in s l number ≡ Some p → HasNoChoice p

-- no card has a decision that may be kept or not, and no store a lost call
pub record IsClosed (w : World) : Type 0 where
  pub cards : (i : ℕ) → (card_at w i).pending ≡ None
  pub stores : (l : ℕ) → (lane_at w l).store.lost ≡ None

-- where no tear leaves a choice, no decision and no lost call is ever open
abbrev pub NoneIsOpen : Type 0
NoneIsOpen =
    (s : ScenarioData) (place : RunPlace) (n : ℕ) (choices : List Bool) (lines : List Line) (w : World)
    → LeavesNone s → Reached s place n choices lines w → IsClosed w

-- two runs have the same lines, and lead to the same world
pub record IsSameRun (lines others : List Line) (w v : World) : Type 0 where
  pub told : lines ≡ others
  pub led : w ≡ v

-- where no tear leaves a choice, a scenario has one run
abbrev pub RunIsOne : Type 0
RunIsOne =
    (s : ScenarioData) (lines others : List Line) (w v : World) → IsScenario s → LeavesNone s → Run s lines w → Run s others v
    → IsSameRun lines others w v
