use Rattle.std.proofs.Math.Facts.{Fits-lt-pow}
use Rattle.iso_message.proofs.written.as_written.Goals as goal

pub is_as_written-requires-clause-bytes : goal.is_as_written-requires-clause-bytes
is_as_written-requires-clause-bytes c = λ k. Fits-lt-pow (c.type_inv.content k)
