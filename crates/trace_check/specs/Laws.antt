-- What a verdict says of a trace.
use Rattle.std.specs.Prelude.{◌≡◌, ◌↔◌, ℕ, ◌+◌, ◌<◌, true, List, [], ◌∷◌, ◌++◌, length, take, Some}
use Rattle.emv_dict.specs.declared.purchase.Logged.{Logged}
use Rattle.kernel.specs.Dialogue.{dialogue}
use Rattle.kernel.specs.Reply.{Reply, Deed}
use Rattle.kernel.specs.Reply as said
use Rattle.terminal_state.specs.Terminal.{Outset}
use Rattle.trace_check.specs.Dialogues.{entry_of_standing, is_awaited, entry_of_reply, reply_with_log}
use Rattle.trace_check.specs.Texts.{entry_of_text, entry_text, IsEntry}
use Rattle.trace_check.specs.Verdicts.{verdict}
use Rattle.trace_check.specs.declared.compare.Verdict.{Verdict}
use Rattle.trace_check.specs.declared.compare.Verdict.TheVariants.{Same, Differs}
use Rattle.trace_check.specs.declared.entry.Entry.{Entry}
use Rattle.emv_dict.specs.declared.ending.Ending.{Ending}

-- the entries are each ask followed by its reply to a terminal with this log of earlier purchases, and at last the end, and
-- nothing more
pub data IsDialogue (log : List Logged) (outset : Outset) : List Reply → List Entry → Type 0 where
  over : (before : List Reply) (ending : Ending) → (dialogue outset before).deed ≡ said.Over ending
      → IsDialogue log outset before (entry_of_standing outset (dialogue outset before) ∷ [])
  answered : (before : List Reply) (entry : Entry) (reply : Reply) (entries : List Entry) → reply_with_log log entry ≡ Some reply
      → is_awaited (dialogue outset before).deed reply ≡ true → IsDialogue log outset (before ++ reply ∷ []) entries
      → IsDialogue log outset before (entry_of_standing outset (dialogue outset before) ∷ entry ∷ entries)

-- a trace is the same exactly where it is the dialogue's, of a terminal with an empty log
abbrev pub SameIsDialogue : Type 0
SameIsDialogue = (outset : Outset) (entries : List Entry) → (verdict outset entries ≡ Same) ↔ IsDialogue [] outset [] entries

-- a front of the trace of a dialogue
abbrev pub IsFront : Outset → List Entry → Type 0
IsFront outset entries = (more : List Entry) × IsDialogue [] outset [] (entries ++ more)

-- the entry that differs is the least one: the entries before it are a front of a dialogue's trace, and with it they
-- are none, or it lacks
pub record IsLeast (outset : Outset) (entries : List Entry) (at : ℕ) : Type 0 where
  pub front : IsFront outset (take at entries)
  pub least : at < length entries → IsFront outset (take (at + 1) entries) → ⊥
  pub within : at < length entries + 1

-- the entry that a verdict names is the first with which the trace is no front of any dialogue's trace
abbrev pub DiffersIsLeast : Type 0
DiffersIsLeast = (outset : Outset) (entries : List Entry) (at : ℕ) → verdict outset entries ≡ Differs at → IsLeast outset entries at

-- an entry has one text, and a text that is an entry is its text
abbrev pub EntriesAreSpelled : Type 0
EntriesAreSpelled =
    ((text : List ℕ) (entry : Entry) → entry_of_text text ≡ Some entry → (text ≡ entry_text entry) × IsEntry entry)
    × ((entry : Entry) → IsEntry entry → entry_of_text (entry_text entry) ≡ Some entry)
