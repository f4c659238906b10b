-- A trace's entries behind an exchange, as they are tried one exchange after the other.
use Rattle.std.specs.Prelude.{◌≡◌, ℕ, ◌+◌, Bool, true, false, List, ◌∷◌, [], ◌++◌, drop, Option, Some, None}
use Rattle.kernel.specs.Kernel.{KernelData, KernelStands}
use Rattle.kernel.specs.Reply.{Reply}
use Rattle.terminal_state.specs.Terminal.{Outset}
use Rattle.trace_check.specs.Dialogues.{replies_in, own_behind}
use Rattle.trace_check.specs.Verdicts.{is_whole, against}
use Rattle.trace_check.specs.declared.compare.Verdict.{Verdict}
use Rattle.trace_check.specs.declared.entry.Entry.{Entry}

-- the verdict on entries that stand behind these replies, from the entry of this number on
unfoldable pub left : Outset → List Reply → ℕ → List Entry → Verdict
left outset before at entries = against at (is_whole entries) entries (own_behind outset before (replies_in entries))

-- what becomes of a terminal to which an entry is told: it takes a reply that it awaits, and nothing else
abbrev pub TakenIf : Bool → KernelData → List Reply → Reply → Type 0
TakenIf true after replies reply = KernelStands after (replies ++ reply ∷ [])
TakenIf false after replies reply = Unit {0}

-- a terminal takes an entry that is a reply which it awaits, and nothing else
abbrev pub ReplyIsTaken : (Reply → Bool) → KernelData → List Reply → Option Reply → Bool → Type 0
ReplyIsTaken awaited after replies None found = found ≡ false
ReplyIsTaken awaited after replies (Some reply) found = (found ≡ awaited reply) × TakenIf found after replies reply

-- the dialogue goes on: behind the first two entries, where the second is a reply
pub record DialogueGoesOn (outset : Outset) (after : KernelData) (replies : List Reply) (at : ℕ) (entries : List Entry) : Type 0 where
  pub reply : Reply
  pub stands : KernelStands after (replies ++ reply ∷ [])
  pub same : left outset replies at entries ≡ left outset (replies ++ reply ∷ []) (at + 2) (drop 2 entries)

-- the verdict that an exchange finds, or none where the dialogue goes on
abbrev pub Exchanged : Outset → KernelData → List Reply → ℕ → List Entry → Option Verdict → Type 0
Exchanged outset after replies at entries (Some verdict) = verdict ≡ left outset replies at entries
Exchanged outset after replies at entries None = DialogueGoesOn outset after replies at entries
