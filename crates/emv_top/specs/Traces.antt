-- What was said in a purchase: a report's lines of it are the entries of its trace behind their lane.
use Rattle.std.specs.Prelude.{◌≡◌, ℕ, List, ◌++◌, codes, decimal, Some}
use Rattle.kernel.specs.Dialogue.{dialogue}
use Rattle.kernel.specs.Ended.{EndData, end_of}
use Rattle.kernel.specs.Reply.{Reply}
use Rattle.kernel.specs.EndShown.{shown_end}
use Rattle.report_text.specs.Pieces.{newline}
use Rattle.report_text.specs.Text.{line_text}
use Rattle.report_text.specs.declared.line.Line.TheVariants.{ToCard, FromCard, Gone, ToHost, FromHost, NoReply}
use Rattle.terminal_state.specs.Terminal.{Outset}
use Rattle.trace_check.specs.Dialogues.{end_text, entry_of_standing}
use Rattle.trace_check.specs.Texts.{entry_text}
use Rattle.trace_check.specs.declared.entry.Entry.TheVariants as entries
use Rattle.txn_replay.specs.Lines.{end_line}

-- a text behind its lane and a blank
abbrev pub behind_lane : ℕ → List ℕ → List ℕ
behind_lane lane text = codes "L" ++ decimal lane ++ codes " " ++ text ++ newline

-- and how a purchase ended, behind its number
abbrev pub ended_in_lane : ℕ → ℕ → List ℕ → List ℕ
ended_in_lane lane number text = codes "L" ++ decimal lane ++ codes " end " ++ decimal number ++ codes " " ++ text ++ newline

-- a report's lines of a purchase are the entries of its trace behind their lane, and its end line has the text that a
-- verdict compares
pub record LinesAreEntries : Type 0 where
  pub commands : (lane : ℕ) (bytes : List ℕ) → line_text (ToCard lane (record { items = bytes })) ≡ behind_lane lane (entry_text (entries.ToCard bytes))
  pub answers : (lane : ℕ) (bytes : List ℕ) → line_text (FromCard lane (record { items = bytes })) ≡ behind_lane lane (entry_text (entries.CardSaid bytes))
  pub gone : (lane : ℕ) → line_text (Gone lane) ≡ behind_lane lane (entry_text entries.CardGone)
  pub messages : (lane : ℕ) (bytes : List ℕ) → line_text (ToHost lane (record { items = bytes })) ≡ behind_lane lane (entry_text (entries.ToHost bytes))
  pub replies : (lane : ℕ) (bytes : List ℕ) → line_text (FromHost lane (record { items = bytes })) ≡ behind_lane lane (entry_text (entries.HostSaid bytes))
  pub silence : (lane : ℕ) → line_text (NoReply lane) ≡ behind_lane lane (entry_text entries.HostSilent)
  -- the end that a verdict compares where the dialogue is over, and the same text in a run's line
  pub over : (outset : Outset) (replies : List Reply) (end : EndData) → end_of outset (dialogue outset replies) ≡ Some end
      → entry_of_standing outset (dialogue outset replies) ≡ entries.End (end_text (shown_end end))
  pub ends : (lane number : ℕ) (end : EndData) → line_text (end_line lane number end) ≡ ended_in_lane lane number (end_text (shown_end end))
