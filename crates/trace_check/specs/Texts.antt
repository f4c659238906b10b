-- The texts of a trace's entries: the forms of a report's lines, without their lane (this project's own).
use Rattle.std.specs.Prelude.{ℕ, ◌≤◌, ◌&&◌, nat_le, if◌then◌else◌, List, [], ◌∷◌, ◌++◌, length, take, drop, codes, Option, Some, None, option_map, Result, Ok, Err}
use Rattle.std.specs.Str.{bytes_eq}
use Rattle.hex.specs.Hex.{decode_of, IsBytes}
use Rattle.hex.specs.declared.error.FromHexError.{FromHexError}
use Rattle.report_text.specs.Pieces.{hex_or_dash}
use Rattle.trace_check.specs.declared.entry.Entry.{Entry}
use Rattle.trace_check.specs.declared.entry.Entry.TheVariants.{ToCard, CardSaid, CardGone, ToHost, HostSaid, HostSilent, End}
use Rattle.trace_check.specs.declared.entry.Form.{Form}
use Rattle.trace_check.specs.declared.entry.Form.TheVariants as form

-- what stands behind a mark
abbrev pub marked_rest : List ℕ → List ℕ → Option (List ℕ)
marked_rest mark text = (if bytes_eq (take (length mark) text) mark then Some (drop (length mark) text) else None)

abbrev pub decoded_or_none : Result (List ℕ) FromHexError → List ℕ
decoded_or_none (Ok bytes) = bytes
decoded_or_none (Err fault) = []

-- the bytes, at most so many, that a line shows by this text: what it spells, shown again, is the text
unfoldable pub bytes_shown : ℕ → List ℕ → Option (List ℕ)
bytes_shown most text =
    if nat_le (length (decoded_or_none (decode_of text))) most && bytes_eq (hex_or_dash (decoded_or_none (decode_of text))) text
    then Some (decoded_or_none (decode_of text)) else None

-- a command, an answer, and a message of either side
abbrev pub most_in : Form → ℕ
most_in form.ToCard = 261
most_in form.CardSaid = 258
most_in form.ToHost = 2048
most_in form.HostSaid = 2048

abbrev pub entry_of_form : Form → List ℕ → Entry
entry_of_form form.ToCard bytes = ToCard bytes
entry_of_form form.CardSaid bytes = CardSaid bytes
entry_of_form form.ToHost bytes = ToHost bytes
entry_of_form form.HostSaid bytes = HostSaid bytes

abbrev pub shown_in : Form → List ℕ → Option Entry
shown_in form shown = option_map (entry_of_form form) (bytes_shown (most_in form) shown)

-- what stands behind a mark, where it does
abbrev pub if_behind : {A : Type 0} → Option (List ℕ) → (List ℕ → A) → A → A
if_behind None found other = other
if_behind (Some rest) found other = found rest

unfoldable pub with_bytes : List ℕ → Option Entry
with_bytes text =
    if_behind (marked_rest (codes "> ") text) (shown_in form.ToCard)
    (if_behind (marked_rest (codes "< ") text) (shown_in form.CardSaid)
    (if_behind (marked_rest (codes "host > ") text) (shown_in form.ToHost)
    (if_behind (marked_rest (codes "host < ") text) (shown_in form.HostSaid) None)))

-- the entry that a text is
unfoldable pub entry_of_text : List ℕ → Option Entry
entry_of_text text =
    if bytes_eq text (codes "< gone") then Some CardGone
    else if bytes_eq text (codes "host < none") then Some HostSilent
    else if_behind (marked_rest (codes "end ") text) (λ rest. Some (End rest)) (with_bytes text)

-- the text that an entry has
abbrev pub entry_text : Entry → List ℕ
entry_text (ToCard bytes) = codes "> " ++ hex_or_dash bytes
entry_text (CardSaid bytes) = codes "< " ++ hex_or_dash bytes
entry_text CardGone = codes "< gone"
entry_text (ToHost bytes) = codes "host > " ++ hex_or_dash bytes
entry_text (HostSaid bytes) = codes "host < " ++ hex_or_dash bytes
entry_text HostSilent = codes "host < none"
entry_text (End text) = codes "end " ++ text

-- bytes, and no more than an entry of this form may have
pub record Fits (form : Form) (bytes : List ℕ) : Type 0 where
  pub bytes_are : IsBytes bytes
  pub few : length bytes ≤ most_in form

abbrev pub IsEntry : Entry → Type 0
IsEntry (ToCard bytes) = Fits form.ToCard bytes
IsEntry (CardSaid bytes) = Fits form.CardSaid bytes
IsEntry CardGone = Unit {0}
IsEntry (ToHost bytes) = Fits form.ToHost bytes
IsEntry (HostSaid bytes) = Fits form.HostSaid bytes
IsEntry HostSilent = Unit {0}
IsEntry (End text) = Unit {0}
