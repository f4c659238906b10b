-- What each ending tells besides its text: the exit status, and whose count of faults rose.
use Rattle.std.specs.Prelude.{◌≡◌, ℕ, Bool, true, false}
use Rattle.emv_ports.specs.Causes.{Rose}
use Rattle.emv_top.specs.declared.status.Status.{Status}
use Rattle.emv_top.specs.declared.status.Status.TheVariants.{Done, Refused, Usage, ReadFault, WriteFault, OutOfMemory}

abbrev pub status_code : Status → ℕ
status_code Done = 0
status_code Refused = 1
status_code Usage = 2
status_code ReadFault = 3
status_code WriteFault = 4
status_code OutOfMemory = 5

-- what holds of the status with this code
pub record ByCode (code : ℕ) (holds : Status → Type 0) : Type 0 where
  pub status : Status
  pub is : code ≡ status_code status
  pub so : holds status

-- whether it comes of a fault of the source, and whether of one of the sink
abbrev pub raises_counts : Status → Bool × Bool
raises_counts Done = (false, false)
raises_counts Refused = (false, false)
raises_counts Usage = (false, false)
raises_counts ReadFault = (true, false)
raises_counts WriteFault = (false, true)
raises_counts OutOfMemory = (false, false)

-- a count of faults over one call, where there was one or none
abbrev pub CountBy : Bool → ℕ → ℕ → Type 0
CountBy false before now = now ≡ before
CountBy true before now = Rose before now

-- the count of the source's faults by the status
abbrev pub SourceCount : ℕ → ℕ → Status → Type 0
SourceCount before now status = CountBy (raises_counts status).0 before now

-- the count of the sink's faults by the status
abbrev pub SinkCount : ℕ → ℕ → Status → Type 0
SinkCount before now status = CountBy (raises_counts status).1 before now

-- how a part of the program that writes has ended: as its table says, and with this count of the sink's faults
pub record Concludes (table : Status → Type 0) (before now : ℕ) (status : Status) : Type 0 where
  pub told : table status
  pub count : SinkCount before now status

-- both counts: the source's before and behind the call, and the sink's
pub record FaultCounts (source_before source_now sink_before sink_now : ℕ) (status : Status) : Type 0 where
  pub source : SourceCount source_before source_now status
  pub sink : SinkCount sink_before sink_now status
