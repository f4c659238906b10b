-- Lines and entries, part by part.
use Rattle.std.proofs.Common.{◌≡◌, ℕ, List, ◌++◌, Some, None, refl, sym, ap, ◌∙◌, append_assoc}
use Rattle.std.specs.Prelude.{codes, decimal}
use Rattle.emv_top.specs.Traces.{LinesAreEntries, behind_lane}
use Rattle.kernel.specs.Dialogue.{dialogue}
use Rattle.kernel.specs.Ended.{EndData, end_by, end_with}
use Rattle.kernel.specs.Reply.{Deed}
use Rattle.kernel.specs.Reply as said
use Rattle.kernel.specs.EndShown.{shown_end}
use Rattle.report_text.specs.Pieces.{newline, hex_or_dash}
use Rattle.report_text.specs.Text.{line_text}
use Rattle.terminal_state.specs.StepResults.{StepResult, state_so_far, latest, sets_card}
use Rattle.terminal_state.specs.Terminal.{Outset}
use Rattle.trace_check.specs.Dialogues.{end_text, entry_of_deed}
use Rattle.trace_check.specs.declared.entry.Entry.TheVariants as entries

-- a word in two parts, with what stands behind the second
parted : (before first second rest : List ℕ) → before ++ (first ++ second) ++ rest ≡ before ++ first ++ (second ++ rest)
parted before first second rest =
    ap (λ (xs : List ℕ). xs ++ rest) (sym (append_assoc before first second)) ∙ append_assoc (before ++ first) second rest

-- a mark with its bytes, and one alone
marked : (lane : ℕ) (mark : List ℕ) (bytes : List ℕ)
    → codes "L" ++ decimal lane ++ (codes " " ++ mark) ++ hex_or_dash bytes ++ newline ≡ behind_lane lane (mark ++ hex_or_dash bytes)
marked lane mark bytes = ap (λ (xs : List ℕ). xs ++ newline) (parted (codes "L" ++ decimal lane) (codes " ") mark (hex_or_dash bytes))

alone : (lane : ℕ) (mark : List ℕ) → codes "L" ++ decimal lane ++ (codes " " ++ mark) ++ newline ≡ behind_lane lane mark
alone lane mark = ap (λ (xs : List ℕ). xs ++ newline) (sym (append_assoc (codes "L" ++ decimal lane) (codes " ") mark))

-- what is over has the end's text as its entry
ended : (outset : Outset) (steps_done : List StepResult) (deed : Deed) (end : EndData) → end_by outset steps_done deed ≡ Some end
    → entry_of_deed outset steps_done deed ≡ entries.End (end_text (shown_end end))
ended outset steps_done (said.ToCard command) end is = absurd (cc)
ended outset steps_done (said.ToHost message) end is = absurd (cc)
ended outset steps_done (said.Over ending) end is =
    let same : end_with outset ending (latest sets_card None steps_done) (state_so_far steps_done) ≡ end = cc in
    ap (λ (e : EndData). entries.End (end_text (shown_end e))) same

pub lines_are_entries : LinesAreEntries
unfolding line_text
lines_are_entries = record {
  commands = λ lane bytes. marked lane (codes "> ") bytes;
  answers = λ lane bytes. marked lane (codes "< ") bytes;
  gone = λ lane. alone lane (codes "< gone");
  messages = λ lane bytes. marked lane (codes "host > ") bytes;
  replies = λ lane bytes. marked lane (codes "host < ") bytes;
  silence = λ lane. alone lane (codes "host < none");
  over = λ outset replies end is. ended outset (dialogue outset replies).steps_done (dialogue outset replies).deed end is;
  ends = λ lane number end. refl;
}
