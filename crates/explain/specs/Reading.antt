-- A source that is read to its end while its bytes are explained.
use Rattle.std.specs.Prelude.{ℕ, ◌≡◌, ◌<◌, ◌++◌, List, codes, length, Result, Ok, Err}
use Rattle.std.specs.declared.option.Option.{Option}
use Rattle.std.specs.declared.option.Option.TheVariants.{Some}
use Rattle.std.specs.Io.KnownBytes.{Consumes, IsAtEnd}
use Rattle.emv_ports.specs.Causes.{Rose}
use Rattle.narrator.specs.State.{Manner}
use Rattle.explain.specs.ReportSoFar.{Stand, IsReportSoFar, TellingWasStopped}
use Rattle.explain.specs.Grammar.{manner_of_words}
use Rattle.explain.specs.ToldLines.{Way, BrokenOff, way_by, most_read}
use Rattle.explain.specs.declared.top.Broken.{Broken}
use Rattle.explain.specs.declared.top.Broken.TheVariants.{Source, Sink, OutOfMemory}

-- all was read, up to the most, and has come
pub record ReadAll (way : Way) (pending : List ℕ) (stand : Stand) (left left_after first held : Option (List ℕ)) : Type 0 where
  pub input : List ℕ
  pub read : Consumes left left_after input
  pub end : length input < most_read → IsAtEnd left_after
  pub so_far : IsReportSoFar way pending stand input first held

-- some was read, and a front of what its first bytes are explained as was handed on
pub record ReadSome (way : Way) (left left_after first held : Option (List ℕ)) : Type 0 where
  pub input : List ℕ
  pub later : List ℕ
  pub read : Consumes left left_after (input ++ later)
  pub stopped : TellingWasStopped way input first held

-- the count of the source's faults over one call
abbrev pub TellingSourceCount : {T : Type 0} → ℕ → ℕ → Result T Broken → Type 0
TellingSourceCount before now (Ok value) = now ≡ before
TellingSourceCount before now (Err Source) = Rose before now
TellingSourceCount before now (Err Sink) = now ≡ before
TellingSourceCount before now (Err OutOfMemory) = now ≡ before

-- the count of the sink's faults
abbrev pub TellingSinkCount : {T : Type 0} → ℕ → ℕ → Result T Broken → Type 0
TellingSinkCount before now (Ok value) = now ≡ before
TellingSinkCount before now (Err Source) = now ≡ before
TellingSinkCount before now (Err Sink) = Rose before now
TellingSinkCount before now (Err OutOfMemory) = now ≡ before

-- some was read, and a front of what its first bytes are explained as, in the manner that the words ask for, was written
abbrev pub BrokenOffAsAsked : List (List ℕ) → Option (List ℕ) → Option (List ℕ) → Option (List ℕ) → Option (List ℕ) → Type 0
BrokenOffAsAsked words left left_after held held_after =
    (manner : Manner) × (manner_of_words words ≡ Some manner) × BrokenOff (way_by manner) left left_after held held_after

-- the line that answers words which are not in the grammar
abbrev pub explain_usage_line : List ℕ
explain_usage_line = codes "usage: explain [--brief] [--ends] [--why] [--books] [--lane N] [--purchase N] [--terminal T]... [--card T]... [--account T]...\n"
