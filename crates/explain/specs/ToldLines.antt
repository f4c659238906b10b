-- What the program makes of a report.
use Rattle.std.specs.Prelude.{ℕ, ◌≡◌, ◌==◌, ◌<◌, ◌≤◌, ◌⊎◌, Bool, true, false, ◌||◌, if◌then◌else◌, List, [], ◌∷◌, ◌++◌, length}
use Rattle.std.specs.List.{All, list_any, flat_map}
use Rattle.std.specs.declared.option.Option.{Option}
use Rattle.std.specs.declared.option.Option.TheVariants.{None}
use Rattle.std.specs.Io.KnownBytes.{Appends, Consumes, IsAtEnd}
use Rattle.emv_ports.specs.Growth.{AppendsFront}
use Rattle.report_lines.specs.Lines.{AreWordLines}
use Rattle.narrator.specs.Filters.{shows_all}
use Rattle.narrator.specs.State.{Manner, StateData, start}
use Rattle.narrator.specs.Words.{Narrates, is_text_left}
use Rattle.narrator.specs.declared.filter.Filter.{Filter}
use Rattle.explain.specs.declared.options.Options.{Options}

-- a text within a line
unfoldable pub HasNoNewline : List ℕ → Type 0
HasNoNewline text = list_any (λ b. b == 10) text ≡ false

-- how lines are told: whether none is left out, since no filter is given; and in which manner their words are made
pub record Way : Type 0 where
  pub all : Bool
  pub manner : Manner

-- the way of a manner
abbrev pub way_by : Manner → Way
way_by manner = record { all = shows_all manner.filter; manner = manner }

-- the manner and the way of these options
abbrev pub manner_in : Options → Manner
manner_in options = record { filter = options.filter; terminals = options.terminals.items; card_apps = options.card_apps.items; accounts = options.accounts.items }

abbrev pub way_of : Options → Way
way_of options = way_by (manner_in options)

-- every line with all its words
abbrev pub unfiltered : Filter
unfiltered = record { brief = false; why = false; books = false; ends = false; lane = None; purchase = None }

-- each line, with all words, where nothing is known of terminals, cards and accounts
abbrev pub whole_way : Way
whole_way = record { all = true; manner = record { filter = unfiltered; terminals = []; card_apps = []; accounts = [] } }

-- the most bytes of a line that is told in words
abbrev pub most_told : ℕ
most_told = 8192

-- a line of the input without its newline, the words behind it, whether it is left by the filters, and what it leaves for
-- the lines behind it
pub record ToldLine : Type 0 where
  pub text : List ℕ
  pub words : List ℕ
  pub shown : Bool
  pub after : StateData

-- a line that is too long to be told has no words, leaves what was, and is left where all are
pub record IsUntold (way : Way) (before : StateData) (told : ToldLine) : Type 0 where
  pub many : most_told < length told.text
  pub no_words : told.words ≡ []
  pub same : told.after ≡ before
  pub left : told.shown ≡ way.all

-- another one has its words and leaves its state, behind this one; whether it is left is the filter's
pub record IsNarrated (way : Way) (before : StateData) (told : ToldLine) : Type 0 where
  pub few : length told.text ≤ most_told
  pub narrates : Narrates way.manner told.text before told.words told.after
  pub left : told.shown ≡ (is_text_left way.manner.filter before told.text || way.all)

-- a line behind this state: its words are lines that begin with two blanks, or none, made from the line and the state
pub record IsLineTold (way : Way) (before : StateData) (told : ToldLine) : Type 0 where
  pub one_line : HasNoNewline told.text
  pub word_lines : AreWordLines told.words
  pub made : IsNarrated way before told ⊎ IsUntold way before told

-- lines one behind the other, each told behind the state that those before it left
abbrev pub TellsLines : Way → StateData → List ToldLine → StateData → Type 0
TellsLines way before [] after = after ≡ before
TellsLines way before (told ∷ others) after = IsLineTold way before told × TellsLines way told.after others after

-- the line as it came
abbrev pub input_line : ToldLine → List ℕ
input_line told = told.text ++ 10 ∷ []

-- and as it goes: unchanged, with its words behind it, or left out
abbrev pub line_and_words : ToldLine → List ℕ
line_and_words told = (if told.shown then input_line told ++ told.words else [])

-- what stands behind the last newline, without words; where lines are filtered it is left out
abbrev pub rest_behind_lines : Bool → List ℕ → List ℕ
rest_behind_lines all rest = (if all then rest else [])

-- the output is the input's lines in order and unchanged, each with its words or left out; where no filter is given, none
-- is left out
pub record Explains (way : Way) (input output : List ℕ) : Type 0 where
  pub told : List ToldLine
  pub after : StateData
  pub rest : List ℕ
  pub lines : TellsLines way start told after
  pub shown : way.all ≡ true → All (λ t. t.shown ≡ true) told
  pub no_line : HasNoNewline rest
  pub input_is : input ≡ flat_map input_line told ++ rest
  pub output_is : output ≡ flat_map line_and_words told ++ rest_behind_lines way.all rest

-- the most bytes that are read
abbrev pub most_read : ℕ
most_read = 4611686018427387904

-- all that the source had left, up to the most, was read, and explained to the sink
pub record Explained (way : Way) (left left_after held held_after : Option (List ℕ)) : Type 0 where
  pub input : List ℕ
  pub output : List ℕ
  pub explains : Explains way input output
  pub read : Consumes left left_after input
  pub end : length input < most_read → IsAtEnd left_after
  pub written : Appends held held_after output

-- some bytes were read, and what some of them, the first ones, are explained as was written, or a front of it
pub record BrokenOff (way : Way) (left left_after held held_after : Option (List ℕ)) : Type 0 where
  pub input : List ℕ
  pub later : List ℕ
  pub output : List ℕ
  pub explains : Explains way input output
  pub read : Consumes left left_after (input ++ later)
  pub written : AppendsFront held held_after output
