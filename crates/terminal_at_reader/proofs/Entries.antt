-- What a terminal asks, as a line.
use Rattle.std.proofs.Common.{◌≡◌, ℕ, Bool, List, None, Some, refl, sym, ap}
use Rattle.std.specs.Prelude.{option_map}
use Rattle.emv_dict.specs.declared.ending.Ending.{Ending}
use Rattle.emv_dict.specs.declared.purchase.Logged.{Logged}
use Rattle.iso_message.specs.Dialect.{call_in}
use Rattle.kernel.specs.Ended.{end_by}
use Rattle.kernel.specs.Kernel.{deed_bytes, deed_next}
use Rattle.kernel.specs.Reply.{Deed}
use Rattle.kernel.specs.Reply as said
use Rattle.kernel.specs.EndShown.{EndShown, shown_end}
use Rattle.kernel.specs.declared.kernel.Next.TheVariants as next
use Rattle.terminal_state.specs.StepResults.{StepResult}
use Rattle.terminal_state.specs.Terminal.{Outset}
use Rattle.trace_check.proofs.Left.{asks_card, asks_host, ends_so}
use Rattle.trace_check.specs.Dialogues.{end_text, entry_of_deed, reply_with_log}
use Rattle.trace_check.specs.declared.entry.Entry.{Entry}
use Rattle.trace_check.specs.declared.entry.Entry.TheVariants.{ToCard, ToHost, End}
use Rattle.terminal_at_reader.specs.Hearing.{spoken}
use Rattle.terminal_at_reader.specs.Talk.{line_of}

-- the line of what a terminal asks, or ends with
pub told_card : (iso : Bool) (outset : Outset) (steps_done : List StepResult) (deed : Deed) (bytes : List ℕ) → next.ToCard ≡ deed_next deed → bytes ≡ deed_bytes deed
    → line_of (ToCard bytes) ≡ line_of (spoken iso (entry_of_deed outset steps_done deed))
told_card iso outset steps_done deed bytes waits is = ap (λ (e : Entry). line_of (spoken iso e)) (sym (asks_card outset steps_done deed bytes waits is))

pub told_host : (iso : Bool) (outset : Outset) (steps_done : List StepResult) (deed : Deed) (bytes : List ℕ) → next.ToHost ≡ deed_next deed → bytes ≡ deed_bytes deed
    → line_of (ToHost (call_in iso bytes)) ≡ line_of (spoken iso (entry_of_deed outset steps_done deed))
told_host iso outset steps_done deed bytes waits is = ap (λ (e : Entry). line_of (spoken iso e)) (sym (asks_host outset steps_done deed bytes waits is))

pub told_end : (iso : Bool) (outset : Outset) (steps_done : List StepResult) (deed : Deed) (end : EndShown) → option_map shown_end (end_by outset steps_done deed) ≡ Some end
    → line_of (End (end_text end)) ≡ line_of (spoken iso (entry_of_deed outset steps_done deed))
told_end iso outset steps_done deed end is = ap (λ (e : Entry). line_of (spoken iso e)) (sym (ends_so outset steps_done deed end is))

-- a dialogue that waits has no end, and one that has ended has its text
pub no_end : (outset : Outset) (steps_done : List StepResult) (deed : Deed) → (deed_next deed ≡ next.Ended → ⊥) → option_map shown_end (end_by outset steps_done deed) ≡ None
no_end outset steps_done (said.ToCard command) waits = refl
no_end outset steps_done (said.ToHost message) waits = refl
no_end outset steps_done (said.Over ending) waits = absurd (waits refl)

pub over_of : (outset : Outset) (steps_done : List StepResult) (deed : Deed) (end : EndShown) → option_map shown_end (end_by outset steps_done deed) ≡ Some end
    → (ending : Ending) × (deed ≡ said.Over ending)
over_of outset steps_done (said.ToCard command) end is = absurd (cc is)
over_of outset steps_done (said.ToHost message) end is = absurd (cc is)
over_of outset steps_done (said.Over ending) end is = (ending, refl)

-- what is asked is no reply
pub ask_unheard : (log : List Logged) (outset : Outset) (steps_done : List StepResult) (deed : Deed) → reply_with_log log (entry_of_deed outset steps_done deed) ≡ None
ask_unheard log outset steps_done (said.ToCard command) = refl
ask_unheard log outset steps_done (said.ToHost message) = refl
ask_unheard log outset steps_done (said.Over ending) = refl
