-- What the commands and the answers in the lines of a run tell: each command is what the dialogue asks behind the replies so
-- far, and its answer is the one of the card's definition (this project's own).
use Rattle.std.specs.Prelude.{◌≡◌, ℕ, ◌+◌, Bool, List, take, slice_get, Option, Some, None}
use Rattle.arrayvec.specs.ArrayVec.{ArrayVec}
use Rattle.card_app.specs.Answering.{card_answer}
use Rattle.kernel.specs.Dialogue.{dialogue}
use Rattle.kernel.specs.Reply.{Reply, ToCard as asks_card}
use Rattle.report_text.specs.declared.line.Line.{Line}
use Rattle.report_text.specs.declared.line.Line.TheVariants.{ToCard, FromCard, Torn, Gone}
use Rattle.scenario_plan.specs.Plan.{ScenarioData}
use Rattle.txn_replay.specs.Payment.{Payment, next_of, outset_for}
use Rattle.txn_replay.specs.Run.{RunPlace, Reached, Run}
use Rattle.txn_replay.specs.Sessions.{session_told, IsSessionOf}
use Rattle.txn_replay.specs.World.{CardRow, World, card_at, lane_at}

-- the answer of a card with applications is that of its definition, for the decisions that it has kept and the commands and
-- answers since its power-up; a card of canned answers gives the next of them
abbrev pub AnswersBy : Payment → CardRow → List ℕ → List ℕ → Option (List (List ℕ)) → Type 0
AnswersBy p card command answer None = answer ≡ (card_answer p.card.image card.kept card.session command).answer
AnswersBy p card command answer (Some answers) = slice_get answers card.told ≡ Some answer

-- the line behind a command of this lane: its answer, or that the power was cut, or that no canned answer was left
abbrev pub IsAnswerTold : Payment → CardRow → ℕ → List ℕ → Line → Type 0
IsAnswerTold p card l command (FromCard lane bytes) = (lane ≡ l) × AnswersBy p card command bytes.items p.card.canned
IsAnswerTold p card l command (Torn lane) = lane ≡ l
IsAnswerTold p card l command (Gone lane) = lane ≡ l
IsAnswerTold p card l command other = ⊥

-- a purchase runs, with this card, and asks this command behind what its terminal was told
pub record AsksCommand (p : Payment) (running : Option (List Reply)) (card : CardRow) (l : ℕ) (command : List ℕ) (next : Line) : Type 0 where
  pub lane_is : p.lane ≡ l
  pub replies : List Reply
  pub runs : running ≡ Some replies
  pub asks : (dialogue (outset_for p) replies).deed ≡ asks_card command
  pub told : IsAnswerTold p card l command next

-- the lines before this one are those of a run that had come to this world, in which a purchase of the lane asks the command;
-- the session of its card is what the lane's lines tell since the last power line
pub record IsAskedAt (s : ScenarioData) (lines : List Line) (k l : ℕ) (command : List ℕ) : Type 0 where
  pub place : RunPlace
  pub count : ℕ
  pub choices : List Bool
  pub world : World
  pub reached : Reached s place count choices (take k lines) world
  pub payment : Payment
  pub is : next_of s world l ≡ Some payment
  pub session : IsSessionOf payment.card.canned (card_at world payment.planned.card) (session_told l (take k lines))
  pub next : Line
  pub there : slice_get lines (k + 1) ≡ Some next
  pub asks : AsksCommand payment (lane_at world l).running (card_at world payment.planned.card) l command next

-- each command in these lines is what the dialogue of its lane's purchase asks there, and the line behind it its answer
abbrev pub AreAsked : ScenarioData → List Line → Type 0
AreAsked s lines = (k l : ℕ) (command : ArrayVec ℕ) → slice_get lines k ≡ Some (ToCard l command) → IsAskedAt s lines k l command.items

-- so in every run
abbrev pub RunsAsk : Type 0
RunsAsk = (s : ScenarioData) (place : RunPlace) (n : ℕ) (choices : List Bool) (lines : List Line) (w : World) → Reached s place n choices lines w → AreAsked s lines

-- and in whole runs
abbrev pub WholeRunsAsk : Type 0
WholeRunsAsk = (s : ScenarioData) (lines : List Line) (w : World) → Run s lines w → AreAsked s lines
