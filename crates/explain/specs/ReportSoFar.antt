-- How far a report has come, and what of it was handed on.
use Rattle.std.specs.Prelude.{ℕ, ◌≡◌, ◌<◌, Bool, true, false, List, [], ◌++◌, length, take, Result, Ok, Err}
use Rattle.std.specs.List.{All, flat_map}
use Rattle.std.specs.declared.option.Option.{Option}
use Rattle.std.specs.Io.KnownBytes.{Appends}
use Rattle.emv_ports.specs.Causes.{Rose}
use Rattle.emv_ports.specs.Growth.{AppendsFront}
use Rattle.narrator.specs.State.{StateData, start, manner_of, seen_state}
use Rattle.explain.specs.ToldLines.{ToldLine, Way, TellsLines, HasNoNewline, input_line, line_and_words, rest_behind_lines, most_told, Explains}
use Rattle.explain.specs.declared.told.Stop.{Stop}
use Rattle.explain.specs.declared.told.Stop.TheVariants.{Sink, OutOfMemory}
use Rattle.explain.specs.declared.told.Teller.{Teller}

-- the way of a teller
abbrev pub way_in : Teller → Way
way_in teller = record { all = teller.all; manner = manner_of teller.narrator }

-- whether the line that is coming is too long to be told, and what the lines before it left
pub record Stand : Type 0 where
  pub long : Bool
  pub state : StateData

abbrev pub stand_of : Teller → Stand
stand_of teller = record { long = teller.long; state = seen_state teller.narrator }

-- these bytes have come: lines, and a line without its end yet. What was handed on are the lines with their words, and
-- of the last one a head, where it is too long to be told
pub record IsReportSoFar (way : Way) (pending : List ℕ) (stand : Stand) (seen : List ℕ) (first held : Option (List ℕ)) : Type 0 where
  pub told : List ToldLine
  pub head : List ℕ
  pub lines : TellsLines way start told stand.state
  pub shown : way.all ≡ true → All (λ t. t.shown ≡ true) told
  pub no_line : HasNoNewline (head ++ pending)
  pub short : stand.long ≡ false → head ≡ []
  pub many : stand.long ≡ true → most_told < length (head ++ pending)
  pub seen_is : seen ≡ flat_map input_line told ++ (head ++ pending)
  pub written : Appends first held (flat_map line_and_words told ++ rest_behind_lines way.all head)

-- these bytes have come, and a front of what they are explained as was handed on
pub record TellingWasStopped (way : Way) (seen : List ℕ) (first held : Option (List ℕ)) : Type 0 where
  pub output : List ℕ
  pub explains : Explains way seen output
  pub written : AppendsFront first held output

-- behind any bytes that a teller has taken these were taken too
abbrev pub TakesBytes : Teller → Teller → List ℕ → Option (List ℕ) → Option (List ℕ) → Type 0
TakesBytes old new bytes held after = (seen : List ℕ) (first : Option (List ℕ)) → IsReportSoFar (way_in old) old.line.items (stand_of old) seen first held
    → IsReportSoFar (way_in new) new.line.items (stand_of new) (seen ++ bytes) first after

-- or the sink took no more, or there was no memory, when all of these had come
abbrev pub StopsBehind : Teller → List ℕ → Option (List ℕ) → Option (List ℕ) → Type 0
StopsBehind old bytes held after = (seen : List ℕ) (first : Option (List ℕ)) → IsReportSoFar (way_in old) old.line.items (stand_of old) seen first held
    → TellingWasStopped (way_in old) (seen ++ bytes) first after

-- or when some of them had come
abbrev pub StopsWithin : Teller → List ℕ → Option (List ℕ) → Option (List ℕ) → Type 0
StopsWithin old bytes held after = (seen : List ℕ) (first : Option (List ℕ)) → IsReportSoFar (way_in old) old.line.items (stand_of old) seen first held
    → (taken : ℕ) × TellingWasStopped (way_in old) (seen ++ take taken bytes) first after

-- these bytes have come, and what they are explained as was handed on
pub record Ended (way : Way) (seen : List ℕ) (first held : Option (List ℕ)) : Type 0 where
  pub output : List ℕ
  pub explains : Explains way seen output
  pub written : Appends first held output

-- the count of the sink's faults over one call
abbrev pub HasToldStop : {T : Type 0} → ℕ → ℕ → Result T Stop → Type 0
HasToldStop before now (Ok value) = now ≡ before
HasToldStop before now (Err Sink) = Rose before now
HasToldStop before now (Err OutOfMemory) = now ≡ before
