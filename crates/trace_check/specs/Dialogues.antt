-- The trace that a terminal's dialogue has on the card's and the host's replies.
use Rattle.std.specs.Prelude.{ℕ, Bool, true, false, List, [], ◌∷◌, ◌++◌, Option, Some, None, option_map, option_to_list, if◌then◌else◌}
use Rattle.std.specs.List.{flat_map}
use Rattle.emv_dict.specs.declared.purchase.Logged.{Logged}
use Rattle.kernel.specs.StepsInTurn.{Standing}
use Rattle.kernel.specs.Dialogue.{dialogue}
use Rattle.kernel.specs.Ended.{EndData, end_with}
use Rattle.kernel.specs.Reply.{Reply, Deed}
use Rattle.kernel.specs.Reply as said
use Rattle.kernel.specs.EndShown.{EndShown, shown_end}
use Rattle.report_text.specs.Text.{parts_text}
use Rattle.report_text.specs.declared.line.EndParts.{EndParts}
use Rattle.terminal_state.specs.StepResults.{StepResult, state_so_far, latest, sets_card}
use Rattle.terminal_state.specs.Terminal.{Outset}
use Rattle.trace_check.specs.declared.entry.Entry.{Entry}
use Rattle.trace_check.specs.declared.entry.Entry.TheVariants.{ToCard, CardSaid, CardGone, ToHost, HostSaid, HostSilent, End}

-- what an end line tells of an end
abbrev pub parts_of : EndShown → EndParts
parts_of shown = record {
  ending = shown.ending;
  tvr = record { 0 = shown.tvr };
  tsi = record { 0 = shown.tsi };
  cvm = shown.cvm;
  arc = shown.code;
  atc_ac = option_map (λ ac. (ac.counter, ac.cryptogram)) shown.last;
  scripts = record { items = shown.scripts };
}

-- its text behind the purchase's number
abbrev pub end_text : EndShown → List ℕ
end_text shown = parts_text (parts_of shown)

-- the reply that an entry is to a terminal with this log of earlier purchases
abbrev pub reply_with_log : List Logged → Entry → Option Reply
reply_with_log log (ToCard command) = None
reply_with_log log (CardSaid answer) = Some (said.CardSaid answer log)
reply_with_log log CardGone = Some said.CardGone
reply_with_log log (ToHost message) = None
reply_with_log log (HostSaid reply) = Some (said.HostSaid reply)
reply_with_log log HostSilent = Some said.HostSilent
reply_with_log log (End text) = None

-- a terminal's log of earlier purchases is empty to a trace
abbrev pub reply_of_entry : Entry → Option Reply
reply_of_entry entry = reply_with_log [] entry

-- the replies of a trace, in their order
abbrev pub replies_in : List Entry → List Reply
replies_in entries = flat_map (λ entry. option_to_list (reply_of_entry entry)) entries

-- a reply as an entry
abbrev pub entry_of_reply : Reply → Entry
entry_of_reply (said.CardSaid answer log) = CardSaid answer
entry_of_reply said.CardGone = CardGone
entry_of_reply (said.HostSaid reply) = HostSaid reply
entry_of_reply said.HostSilent = HostSilent

-- a command awaits the card's reply, a message the host's, and an end none
abbrev pub of_card : Reply → Bool
of_card (said.CardSaid answer log) = true
of_card said.CardGone = true
of_card (said.HostSaid reply) = false
of_card said.HostSilent = false

abbrev pub of_host : Reply → Bool
of_host (said.CardSaid answer log) = false
of_host said.CardGone = false
of_host (said.HostSaid reply) = true
of_host said.HostSilent = true

-- whether what the terminal did awaits this reply: a command the card's, a message the host's, an end none
abbrev pub is_awaited : Deed → Reply → Bool
is_awaited (said.ToCard command) reply = of_card reply
is_awaited (said.ToHost message) reply = of_host reply
is_awaited (said.Over ending) reply = false

-- what the terminal does next, as an entry
abbrev pub entry_of_deed : Outset → List StepResult → Deed → Entry
entry_of_deed outset steps_done (said.ToCard command) = ToCard command
entry_of_deed outset steps_done (said.ToHost message) = ToHost message
entry_of_deed outset steps_done (said.Over ending) = End (end_text (shown_end (end_with outset ending (latest sets_card None steps_done) (state_so_far steps_done))))

abbrev pub entry_of_standing : Outset → Standing StepResult → Entry
entry_of_standing outset standing = entry_of_deed outset standing.steps_done standing.deed

-- behind these replies: what the terminal does, and each time the reply that comes to it, up to one that it does not
-- await
abbrev pub own_behind : Outset → List Reply → List Reply → List Entry
own_behind outset before [] = entry_of_standing outset (dialogue outset before) ∷ []
own_behind outset before (reply ∷ later) =
    entry_of_standing outset (dialogue outset before)
    ∷ (if is_awaited (dialogue outset before).deed reply then entry_of_reply reply ∷ own_behind outset (before ++ reply ∷ []) later else [])

-- the dialogue's own trace on these replies
abbrev pub own_trace : Outset → List Reply → List Entry
own_trace outset replies = own_behind outset [] replies
