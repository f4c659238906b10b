-- What the program does with a document.
use Rattle.std.specs.Prelude.{◌≡◌, ◌+◌, ◌⊎◌, ℕ, List, [], ◌∷◌, ◌++◌, Option, Some, None, Ok, Err, slice_get, take}
use Rattle.std.specs.Io.KnownBytes.{Appends, Consumes}
use Rattle.emv_dict.specs.declared.purchase.Logged.{Logged}
use Rattle.kernel.specs.EndShown.{EndShown}
use Rattle.line_talk.specs.Coming.{Comes}
use Rattle.line_talk.specs.Preamble.{IsDocument}
use Rattle.line_talk.specs.Talk.{Programme, Sides}
use Rattle.line_talk.specs.Turns.{Turn, answers_of, lines_spoken}
use Rattle.line_talk.specs.declared.line.Came.TheVariants as came
use Rattle.scenario_fields.specs.Line.{refused_line}
use Rattle.scenario_fields.specs.declared.fault.ScenarioFault.{ScenarioFault}
use Rattle.scenario_lanes.specs.Plan.{LaneData}
use Rattle.scenario_lanes.specs.declared.plan.Planned.{Planned}
use Rattle.trace_check.specs.Laws.{IsDialogue}
use Rattle.trace_check.specs.Verdicts.{verdict_of}
use Rattle.trace_check.specs.declared.compare.Verdict.TheVariants.{Same}
use Rattle.trace_check.specs.declared.entry.Entry.{Entry}
use Rattle.terminal_at_reader.specs.Document.{ReadsTerminal}
use Rattle.terminal_at_reader.specs.Settlement.{settled_line}
use Rattle.terminal_at_reader.specs.Talk.{AreEntries, IsTerminalTalk, Rests, TerminalTalked, end_shown_at, lost_captured_line, lost_line, outset_of_planned, replies_heard, terminal_opening}
use Rattle.terminal_at_reader.specs.Till.{TillData, approval_logged}

-- a document is refused by its first fault, and else its terminal talks
abbrev pub terminal_programme : Programme
terminal_programme = record {
  Unasked = ⊥;
  Refuses = λ bytes line. (fault : ScenarioFault) × ReadsTerminal bytes (Err fault) × (refused_line fault ≡ line);
  Lacks = λ bytes. ⊥;
  Talks = λ bytes opening turns. (lane : LaneData) × ReadsTerminal bytes (Ok lane) × (opening ≡ terminal_opening lane) × IsTerminalTalk lane turns;
}

-- what was written last behind this
abbrev pub written_last : List ℕ → List Turn → List ℕ
written_last first [] = first
written_last first (turn ∷ turns) = written_last turn.answer turns

-- a purchase of a terminal with this log of earlier ones, as lines and answers behind its first ask: its whole dialogue,
-- which ends so; and where the log is empty, a trace that is the same as the dialogue
pub record IsPaid (lane : LaneData) (planned : Planned) (log : List Logged) (first : List ℕ) (turns : List Turn) (end : EndShown) : Type 0 where
  pub entries : List Entry
  pub are : AreEntries lane.iso log (outset_of_planned lane planned) first turns entries
  pub whole : IsDialogue log (outset_of_planned lane planned) [] entries
  pub ends : end_shown_at (outset_of_planned lane planned) (replies_heard log entries) ≡ Some end
  pub same : log ≡ [] → verdict_of (record { lane = record lane { purchases = planned ∷ [] }; entries = entries }) ≡ Same

-- a purchase in which the power was lost, as lines and answers behind its first ask: the front of a dialogue, up to what waits
-- for its reply
pub record IsBrokenOff (lane : LaneData) (planned : Planned) (log : List Logged) (first : List ℕ) (turns : List Turn) : Type 0 where
  pub entries : List Entry
  pub are : AreEntries lane.iso log (outset_of_planned lane planned) first turns entries
  pub front : (more : List Entry) × IsDialogue log (outset_of_planned lane planned) [] (entries ++ more)
  pub waits : end_shown_at (outset_of_planned lane planned) (replies_heard log entries) ≡ None

-- a line tells that the power is lost
abbrev pub IsLoss : List ℕ → Type 0
IsLoss line = (line ≡ lost_line) ⊎ (line ≡ lost_captured_line)

-- lines and answers are so many purchases of a lane that have begun, one behind the other, each with the log of those before
-- it, and what was said between them. They leave this log, and the one that is left where the last of them is lost
pub data ArePaid (lane : LaneData) (first : List ℕ) : List Turn → ℕ → List Logged → List Logged → Type 0 where
  unpaid : ArePaid lane first [] 0 [] []
  between : (turns : List Turn) (turn : Turn) (number : ℕ) (log left : List Logged) → ArePaid lane first turns number log left
      → (IsLoss turn.line → ⊥) → ArePaid lane first (turns ++ turn ∷ []) number log left
  -- behind a settlement nothing is lost of what was before it
  settled : (turns : List Turn) (turn : Turn) (told : List ℕ) (count number : ℕ) (log left : List Logged) → ArePaid lane first turns number log left
      → turn.answer ≡ told ++ settled_line count → ArePaid lane first (turns ++ turn ∷ []) number log log
  paid : (turns mine : List Turn) (number : ℕ) (log left : List Logged) (planned : Planned) (end : EndShown) → ArePaid lane first turns number log left
      → slice_get lane.purchases number ≡ Some planned → IsPaid lane planned log (written_last first turns) mine end
      → ArePaid lane first (turns ++ mine) (number + 1) (log ++ approval_logged planned.purchase.amount end.ending end.pan) log
  broken_off : (turns mine : List Turn) (turn : Turn) (number : ℕ) (log left : List Logged) (planned : Planned) → ArePaid lane first turns number log left
      → slice_get lane.purchases number ≡ Some planned → IsBrokenOff lane planned log (written_last first turns) mine → turn.line ≡ lost_line
      → ArePaid lane first (turns ++ (mine ++ turn ∷ [])) (number + 1) log log
  lost : (turns : List Turn) (turn : Turn) (number : ℕ) (log left : List Logged) → ArePaid lane first turns number log left → IsLoss turn.line
      → ArePaid lane first (turns ++ turn ∷ []) number left left

-- a document was read, and in it a terminal, in which each purchase that it began has ended or was broken off, and it rests
pub record HadDialogues (s : Sides) : Type 0 where
  pub bytes : List ℕ
  pub between_is : Option (List ℕ)
  pub document : IsDocument s.first between_is bytes
  pub lane : LaneData
  pub reading : ReadsTerminal bytes (Ok lane)
  pub turns : List Turn
  pub till : TillData
  pub talked : TerminalTalked lane turns Rests till
  pub paid_are : ArePaid lane (terminal_opening lane).text turns till.begun till.log (take till.log_before till.log)
  pub told : Appends s.before s.held ((terminal_opening lane).text ++ answers_of turns)
  -- the lines are at their end
  pub left : Option (List ℕ)
  pub rest : List ℕ
  pub taken : Consumes between_is left (lines_spoken turns)
  pub ended : Comes came.End left s.left rest
