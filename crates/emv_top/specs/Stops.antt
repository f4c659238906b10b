-- Why a run may stop: the sink's count of faults rose, or there was no memory.
use Rattle.std.specs.Prelude.{◌≡◌, ℕ, List, Result, Ok, Err, OnOk, OnErr}
use Rattle.std.specs.declared.option.Option.{Option}
use Rattle.std.specs.Io.KnownBytes.{Appends}
use Rattle.emv_ports.specs.Causes.{Rose}
use Rattle.emv_ports.specs.Growth.{AppendsFront}
use Rattle.emv_top.specs.declared.stop.Stop.{Stop}
use Rattle.emv_top.specs.declared.stop.Stop.TheVariants.{Sink, OutOfMemory}

-- the count of the sink's faults over one call
abbrev pub HasStop : {T : Type 0} → ℕ → ℕ → Result T Stop → Type 0
HasStop before now (Ok value) = now ≡ before
HasStop before now (Err Sink) = Rose before now
HasStop before now (Err OutOfMemory) = now ≡ before

-- the text was appended to what the sink held, or, where the call stopped, a front of it
pub record Emits {T : Type 0} (text : List ℕ) (old new : Option (List ℕ)) (before now : ℕ) (result : Result T Stop) : Type 0 where
  pub all : OnOk result (Appends old new text)
  pub front : OnErr result (AppendsFront old new text)
  pub stop : HasStop before now result
