-- How the program ends with each status.
use Rattle.std.specs.Prelude.{ℕ, ◌≡◌, ◌⊎◌, List, []}
use Rattle.std.specs.declared.option.Option.{Option}
use Rattle.std.specs.declared.option.Option.TheVariants.{None, Some}
use Rattle.std.specs.Io.KnownBytes.{Appends}
use Rattle.emv_ports.specs.Causes.{Rose}
use Rattle.emv_ports.specs.Growth.{AppendsFront}
use Rattle.narrator.specs.State.{Manner}
use Rattle.explain.specs.Grammar.{manner_of_words}
use Rattle.explain.specs.Reading.{BrokenOffAsAsked, explain_usage_line}
use Rattle.explain.specs.ToldLines.{Explained, way_by, whole_way}
use Rattle.explain.specs.declared.status.Status.{Status}
use Rattle.explain.specs.declared.status.Status.TheVariants.{Done, Usage, ReadFault, WriteFault, OutOfMemory}

-- the exit status
abbrev pub explain_code : Status → ℕ
explain_code Done = 0
explain_code Usage = 2
explain_code ReadFault = 3
explain_code WriteFault = 4
explain_code OutOfMemory = 5

-- what becomes of the words, by the status; beside them that the source is left as it was, that the sink is, and what the
-- one had left and the other held
abbrev pub ExplainAnswers : List (List ℕ) → Type 0 → Type 0 → Option (List ℕ) → Option (List ℕ) → Option (List ℕ) → Option (List ℕ) → Status → Type 0
-- all that the source had left was read, and the sink got its lines in order and unchanged, each with none or some lines of
-- words that begin with two blanks, or left out by a filter, in the manner that the words ask for. Without words none is
-- left out
ExplainAnswers words unread unwritten left left_after held held_after Done =
    (manner : Manner) × (manner_of_words words ≡ Some manner) × (words ≡ [] → way_by manner ≡ whole_way) × Explained (way_by manner) left left_after held held_after
-- the words are not in the grammar; the sink got the usage line, and nothing was read
ExplainAnswers words unread unwritten left left_after held held_after Usage =
    (manner_of_words words ≡ None) × unread × Appends held held_after explain_usage_line
-- the source failed: what the first bytes that were read are explained as was written, or a front of it
ExplainAnswers words unread unwritten left left_after held held_after ReadFault = BrokenOffAsAsked words left left_after held held_after
-- the sink failed, and got as much, or a front of the usage line, where nothing was read
ExplainAnswers words unread unwritten left left_after held held_after WriteFault =
    ((manner_of_words words ≡ None) × unread × AppendsFront held held_after explain_usage_line) ⊎ BrokenOffAsAsked words left left_after held held_after
-- there was no memory: for what the words ask for, and nothing was read or written; or as for a fault of the source
ExplainAnswers words unread unwritten left left_after held held_after OutOfMemory =
    (unread × unwritten) ⊎ BrokenOffAsAsked words left left_after held held_after

-- the count of the source's faults over one call, by the status: it rises for ReadFault alone
abbrev pub ExplainSourceCount : ℕ → ℕ → Status → Type 0
ExplainSourceCount before now Done = now ≡ before
ExplainSourceCount before now Usage = now ≡ before
ExplainSourceCount before now ReadFault = Rose before now
ExplainSourceCount before now WriteFault = now ≡ before
ExplainSourceCount before now OutOfMemory = now ≡ before

-- the count of the sink's faults: it rises for WriteFault alone
abbrev pub ExplainSinkCount : ℕ → ℕ → Status → Type 0
ExplainSinkCount before now Done = now ≡ before
ExplainSinkCount before now Usage = now ≡ before
ExplainSinkCount before now ReadFault = now ≡ before
ExplainSinkCount before now WriteFault = Rose before now
ExplainSinkCount before now OutOfMemory = now ≡ before
