-- What holds of every run, whatever its scenario: no counter serves two purchases, no power-up loses a decision that an
-- answer rests on, and no transaction is booked twice (this project's own).
use Rattle.std.specs.Prelude.{◌≡◌, ◌≢◌, ℕ, ◌+◌, ◌≤◌, ◌<◌, Bool, true, false, count_by, List, [], ◌∷◌, ◌++◌, fold, length, take, slice_get, Some}
use Rattle.card_state.specs.Decisions.{Decided}
use Rattle.host_ledger.specs.declared.key.Key.{Key}
use Rattle.host_histories.specs.BookedOnce.{IsBooking, TakesAmount}
use Rattle.report_text.specs.declared.line.Line.{Line}
use Rattle.report_text.specs.declared.line.Line.TheVariants.{PowerTorn, Torn}
use Rattle.scenario_plan.specs.Plan.{ScenarioData}
use Rattle.txn_replay.specs.Payment.{Payment, next_of}
use Rattle.txn_replay.specs.Run.{RunPlace, Reached, Run, all_over}
use Rattle.txn_replay.specs.Sound.{IsWorldSound, IsIdle, IsCalm}
use Rattle.txn_replay.specs.Steps.{no_event, happens}
use Rattle.txn_replay.specs.World.{CryptogramGiven, Act, Found, Answering, Breaking, CardRow, World, card_at, lane_at}
use Rattle.txn_replay.specs.declared.event.Event.TheVariants.{Turn}

-- two cryptograms of one application with one transaction counter are of one purchase
abbrev pub OneUse : List CryptogramGiven → Type 0
OneUse given =
    (i j : ℕ) (x y : CryptogramGiven) → slice_get given i ≡ Some x → slice_get given j ≡ Some y → x.app ≡ y.app → x.counter ≡ y.counter
    → x.holder ≡ y.holder

-- the list that the last completed power-up found with the decisions taken since then, a cut one last; and its front up
-- to the last decision behind which an answer was made
pub record DecisionsTaken : Type 0 where
  pub all : List Decided
  pub sure : List Decided

abbrev pub sure_with : DecisionsTaken → List Decided → List Decided
sure_with t [] = t.sure
sure_with t (d ∷ ds) = t.all ++ d ∷ ds

abbrev pub taken_next : DecisionsTaken → Act → DecisionsTaken
taken_next t (Found ds) = record { all = ds; sure = ds }
taken_next t (Answering ds) = record { all = t.all ++ ds; sure = sure_with t ds }
taken_next t (Breaking ds) = record { all = t.all ++ ds; sure = t.sure }

abbrev pub none_taken : DecisionsTaken
none_taken = record { all = []; sure = [] }

unfoldable pub taken_in : List Act → DecisionsTaken
taken_in acts = fold taken_next none_taken acts

-- what a power-up finds is a prefix of these decisions, leaves out at most the last one, and none with an answer behind it
pub record FindsPrefix (t : DecisionsTaken) (found : List Decided) : Type 0 where
  pub left : List Decided
  pub prefix : found ++ left ≡ t.all
  pub few : length left ≤ 1
  pub others : List Decided
  pub answered : t.sure ++ others ≡ found

abbrev pub Prefix : List Act → Type 0
Prefix acts = (k : ℕ) (found : List Decided) → slice_get acts k ≡ Some (Found found) → FindsPrefix (taken_in (take k acts)) found

-- at most one of the messages that came to the host books a transaction, and it is a presentment of it, whose amount
-- the transaction takes from then on
pub record IsBookedOnce (s : ScenarioData) (w : World) : Type 0 where
  pub once : (key : Key) (i j : ℕ) → IsBooking s.issuer s.accounts w.messages key i → IsBooking s.issuer s.accounts w.messages key j → i ≡ j
  pub presented : (key : Key) (place : ℕ) → IsBooking s.issuer s.accounts w.messages key place → TakesAmount s.issuer s.accounts w.messages key place

pub record IsFair (s : ScenarioData) (w : World) : Type 0 where
  pub one_use : (i : ℕ) (card : CardRow) → slice_get w.cards i ≡ Some card → OneUse card.given
  pub prefix : (i : ℕ) (card : CardRow) → slice_get w.cards i ≡ Some card → Prefix card.acts
  pub booked_once : IsBookedOnce s w

-- of every world that a run comes to
abbrev pub RunsAreFair : Type 0
RunsAreFair =
    (s : ScenarioData) (place : RunPlace) (n : ℕ) (choices : List Bool) (lines : List Line) (w : World)
    → Reached s place n choices lines w → IsFair s w

-- and of the world that a whole one leads to
abbrev pub WholeRunsAreFair : Type 0
WholeRunsAreFair = (s : ScenarioData) (lines : List Line) (w : World) → Run s lines w → IsFair s w

-- every world that a run comes to is sound
abbrev pub WorldsAreSound : Type 0
WorldsAreSound =
    (s : ScenarioData) (place : RunPlace) (n : ℕ) (choices : List Bool) (lines : List Line) (w : World)
    → Reached s place n choices lines w → IsWorldSound s w

-- a lane that waits has no exchange: no line is made, and nothing changes
abbrev pub IdleLanesStay : Type 0
IdleLanesStay = (s : ScenarioData) (w : World) (l : ℕ) (choices : List Bool) → IsIdle s w l → happens s w (Turn l) choices ≡ no_event w

-- an exchange of one lane leaves every other lane, and every card but that of its purchase
pub record LeavesOthers (s : ScenarioData) (w after : World) (l : ℕ) : Type 0 where
  pub lanes : (k : ℕ) → k ≢ l → lane_at after k ≡ lane_at w k
  pub cards : (i : ℕ) → ((p : Payment) → next_of s w l ≡ Some p → i ≢ p.planned.card) → card_at after i ≡ card_at w i

-- an exchange of one lane leaves every other lane, and every card but that of its purchase
abbrev pub LanesStayApart : Type 0
LanesStayApart = (s : ScenarioData) (w : World) (l : ℕ) (choices : List Bool) → LeavesOthers s w (happens s w (Turn l) choices).world l

-- a line that tells that the power of a card was cut
abbrev pub is_torn : Line → Bool
is_torn (PowerTorn lane card) = true
is_torn (Torn lane) = true
is_torn other = false

-- an exchange counts a loss of its card exactly where its lines tell one
abbrev pub LossesAreTold : Type 0
LossesAreTold =
    (s : ScenarioData) (w : World) (l : ℕ) (choices : List Bool) (p : Payment) → IsWorldSound s w → next_of s w l ≡ Some p
    → (card_at (happens s w (Turn l) choices).world p.planned.card).losses
    ≡ (card_at w p.planned.card).losses + count_by is_torn (happens s w (Turn l) choices).lines

-- where every lane waits, every purchase is over
abbrev pub StuckIsOver : Type 0
StuckIsOver = (s : ScenarioData) (w : World) → IsWorldSound s w → ((l : ℕ) → l < length s.lanes → IsIdle s w l) → all_over s w ≡ true

-- and so it is in the settlement and in the audit
abbrev pub CalmIsOver : Type 0
CalmIsOver =
    (s : ScenarioData) (place : RunPlace) (n : ℕ) (choices : List Bool) (lines : List Line) (w : World)
    → Reached s place n choices lines w → IsCalm place → all_over s w ≡ true
