-- What answers `check`: the line of the verdict on the trace that was read, or the line of its fault.
use Rattle.std.specs.Prelude.{◌≡◌, ◌⊎◌, ℕ, List, ◌++◌, codes, decimal, Option, Some, Ok, Err}
use Rattle.std.specs.Io.KnownBytes.{Appends}
use Rattle.emv_ports.specs.Growth.{AppendsFront}
use Rattle.emv_ports.specs.Reading.{ReadsUpTo}
use Rattle.emv_top.specs.declared.status.Status.{Status}
use Rattle.emv_top.specs.declared.status.Status.TheVariants.{Done, Refused, Usage, ReadFault, WriteFault, OutOfMemory}
use Rattle.report_text.specs.Pieces.{newline}
use Rattle.scenario_fields.specs.Line.{refused_line}
use Rattle.scenario_fields.specs.declared.fault.ScenarioFault.{ScenarioFault}
use Rattle.trace_check.specs.Document.{ReadsTrace, TraceData}
use Rattle.trace_check.specs.Verdicts.{verdict_of}
use Rattle.trace_check.specs.declared.compare.Verdict.{Verdict}
use Rattle.trace_check.specs.declared.compare.Verdict.TheVariants.{Same, Differs}

-- the trace is its dialogue's own, or the entry of this number is the first that isn't
abbrev pub verdict_line : Verdict → List ℕ
verdict_line Same = codes "check ok" ++ newline
verdict_line (Differs at) = codes "check differs " ++ decimal at ++ newline

-- the bytes are a trace's, and this became of the line of the verdict on it
pub record HasVerdict (bytes : List ℕ) (written : List ℕ → Type 0) : Type 0 where
  pub trace : TraceData
  pub reading : ReadsTrace bytes (Ok trace)
  pub told : written (verdict_line (verdict_of trace))

-- or they have a fault, and this became of its line
pub record HasFault (bytes : List ℕ) (written : List ℕ → Type 0) : Type 0 where
  pub fault : ScenarioFault
  pub reading : ReadsTrace bytes (Err fault)
  pub line : List ℕ
  pub named : refused_line fault ≡ Some line
  pub told : written line

-- a front of the one line or the other was written
abbrev pub TellsFront : List ℕ → Option (List ℕ) → Option (List ℕ) → Type 0
TellsFront bytes old new = HasVerdict bytes (AppendsFront old new) ⊎ HasFault bytes (AppendsFront old new)

-- what becomes of a verdict, by the status that tells it
abbrev pub TellsVerdict : Verdict → Option (List ℕ) → Option (List ℕ) → Status → Type 0
TellsVerdict verdict old new Done = Appends old new (verdict_line verdict)
TellsVerdict verdict old new Refused = ⊥
TellsVerdict verdict old new Usage = ⊥
TellsVerdict verdict old new ReadFault = ⊥
TellsVerdict verdict old new WriteFault = AppendsFront old new (verdict_line verdict)
TellsVerdict verdict old new OutOfMemory = ⊥

-- what becomes of the bytes
abbrev pub Checks : List ℕ → Option (List ℕ) → Option (List ℕ) → Status → Type 0
Checks bytes old new Done = HasVerdict bytes (Appends old new)
Checks bytes old new Refused = HasFault bytes (Appends old new)
Checks bytes old new Usage = ⊥
Checks bytes old new ReadFault = ⊥
Checks bytes old new WriteFault = TellsFront bytes old new
Checks bytes old new OutOfMemory = new ≡ old

-- what becomes of the source's bytes
abbrev pub ChecksRead : Option (List ℕ) → Option (List ℕ) → Option (List ℕ) → Option (List ℕ) → Status → Type 0
-- 0: they are a trace's, and the sink got the line of the verdict on it
ChecksRead left after old new Done = (bytes : List ℕ) × ReadsUpTo 4194305 left after bytes × HasVerdict bytes (Appends old new)
-- 1: they are refused, and the sink got the line of that very fault
ChecksRead left after old new Refused = (bytes : List ℕ) × ReadsUpTo 4194305 left after bytes × HasFault bytes (Appends old new)
ChecksRead left after old new Usage = ⊥
-- 3, 5: the source failed, or there was no memory, and nothing was written
ChecksRead left after old new ReadFault = new ≡ old
-- 4: the sink, which failed, got a front of the one line or the other
ChecksRead left after old new WriteFault = (bytes : List ℕ) × ReadsUpTo 4194305 left after bytes × TellsFront bytes old new
ChecksRead left after old new OutOfMemory = new ≡ old
