-- What a source and a sink over memory mean.
use Rattle.std.specs.Prelude.{◌≡◌, ℕ, List, [], OnErr, Result}
use Rattle.emv_ports.specs.Causes.{one_more}

-- the bytes that are left, the most that one call moves, the numbers of the calls that fail (the
-- first call is 1), the calls made and the faults so far
pub record SourceState : Type 0 where
  pub left : List ℕ
  pub most : ℕ
  pub fails : List ℕ
  pub calls : ℕ
  pub faults : ℕ

-- the bytes that it holds, how many it can hold, and as above
pub record SinkState : Type 0 where
  pub held : List ℕ
  pub room : ℕ
  pub most : ℕ
  pub fails : List ℕ
  pub calls : ℕ
  pub faults : ℕ

-- before the first call
abbrev pub new_source : List ℕ → List ℕ → ℕ → SourceState
new_source bytes fails most = record { left = bytes; most = most; fails = fails; calls = 0; faults = 0 }

-- an empty sink before its first call
abbrev pub new_sink : ℕ → List ℕ → ℕ → SinkState
new_sink room fails most = record { held = []; room = room; most = most; fails = fails; calls = 0; faults = 0 }

-- what a call of `read` counts, and what it leaves
pub record CountsRead {T E : Type 0} (old new : SourceState) (result : Result T E) : Type 0 where
  pub calls : new.calls ≡ one_more old.calls
  pub faults : OnErr result (new.faults ≡ one_more old.faults)
  pub fails : new.fails ≡ old.fails
  pub most : new.most ≡ old.most

-- what a call of `write` counts, and what it leaves
pub record CountsWrite {T E : Type 0} (old new : SinkState) (result : Result T E) : Type 0 where
  pub calls : new.calls ≡ one_more old.calls
  pub faults : OnErr result (new.faults ≡ one_more old.faults)
  pub fails : new.fails ≡ old.fails
  pub room : new.room ≡ old.room
  pub most : new.most ≡ old.most
