-- What one call of a source or of a sink moves.
use Rattle.std.specs.Prelude.{ℕ, List, ◌<◌, length, IfOk, Option, Result}
use Rattle.std.specs.Io.{ReadsAtMost, WritesAtMost}
use Rattle.std.specs.Io.KnownBytes.{ReadConsumes, WriteAppends}
use Rattle.emv_ports.specs.Causes.{HasCause}

-- bytes of what was left stand at the front of the room for them
pub record ReadsSource {E : Type 0} (left left_now : Option (List ℕ)) (faults faults_now : ℕ) (room : List ℕ) (result : Result ℕ E) : Type 0 where
  pub bound : ReadsAtMost result room
  pub bytes : ReadConsumes left left_now result room
  pub cause : HasCause faults faults_now result

-- a front of the piece stands behind what was held
pub record WritesSink {E : Type 0} (held held_now : Option (List ℕ)) (faults faults_now : ℕ) (piece : List ℕ) (result : Result ℕ E) : Type 0 where
  pub bound : WritesAtMost result piece
  pub bytes : WriteAppends held held_now result piece
  pub takes : 0 < length piece → IfOk result (λ n. 0 < n)
  pub cause : HasCause faults faults_now result
