-- Whether a trace is the one that its terminal's dialogue would have on the trace's replies.
use Rattle.std.specs.Prelude.{ℕ, ◌+◌, Bool, true, false, List, [], ◌∷◌, if◌then◌else◌}
use Rattle.std.specs.Str.{bytes_eq}
use Rattle.emv_dict.specs.Views.{SettingsData}
use Rattle.scenario_lanes.specs.declared.plan.Planned.{Planned}
use Rattle.terminal_state.specs.Terminal.{Outset}
use Rattle.trace_check.specs.Dialogues.{replies_in, own_trace}
use Rattle.trace_check.specs.Document.{TraceData}
use Rattle.trace_check.specs.declared.compare.Verdict.{Verdict}
use Rattle.trace_check.specs.declared.compare.Verdict.TheVariants.{Same, Differs}
use Rattle.trace_check.specs.declared.entry.Entry.{Entry}
use Rattle.trace_check.specs.declared.entry.Entry.TheVariants.{ToCard, CardSaid, CardGone, ToHost, HostSaid, HostSilent, End}

abbrev pub same_entry : Entry → Entry → Bool
same_entry (ToCard a) (ToCard b) = bytes_eq a b
same_entry (CardSaid a) (CardSaid b) = bytes_eq a b
same_entry CardGone CardGone = true
same_entry (ToHost a) (ToHost b) = bytes_eq a b
same_entry (HostSaid a) (HostSaid b) = bytes_eq a b
same_entry HostSilent HostSilent = true
same_entry (End a) (End b) = bytes_eq a b
same_entry a b = false

abbrev pub is_end_entry : Entry → Bool
is_end_entry (End text) = true
is_end_entry other = false

-- a trace that is whole ends with an end
abbrev pub is_whole : List Entry → Bool
is_whole [] = false
is_whole (entry ∷ []) = is_end_entry entry
is_whole (entry ∷ next ∷ entries) = is_whole (next ∷ entries)

-- against another trace, from the entry of this number on: the first entry that differs, or that the other has not; a
-- whole one that has not differed is the same, and another one lacks its next entry
abbrev pub against : ℕ → Bool → List Entry → List Entry → Verdict
against at whole [] own = (if whole then Same else Differs at)
against at whole (entry ∷ entries) [] = Differs at
against at whole (entry ∷ entries) (other ∷ own) = (if same_entry entry other then against (at + 1) whole entries own else Differs at)

-- a trace against the dialogue's own one on its replies
abbrev pub verdict : Outset → List Entry → Verdict
verdict outset entries = against 0 (is_whole entries) entries (own_trace outset (replies_in entries))

-- that of a terminal with one purchase
abbrev pub verdict_on : SettingsData → List Planned → List Entry → Verdict
verdict_on settings [] entries = Differs 0
verdict_on settings (planned ∷ more) entries = verdict (record { settings = settings; purchase = planned.purchase }) entries

-- the verdict on a trace: the same, or the first entry that differs or lacks
abbrev pub verdict_of : TraceData → Verdict
verdict_of trace = verdict_on trace.lane.settings trace.lane.purchases trace.entries
