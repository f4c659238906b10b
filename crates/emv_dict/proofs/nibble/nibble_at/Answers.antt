use Rattle.std.proofs.Common.{sym, arith}
use Rattle.emv_dict.proofs.HexDigits.{high_half, low_half}
use Rattle.emv_dict.proofs.nibble.nibble_at.Goals as goal

pub returns-then-place-eq0-clause-value : goal.returns-then-place-eq0-clause-value
returns-then-place-eq0-clause-value c = sym (high_half c.args.bytes.now _ c.args.place (omega arith) (omega arith))

pub returns-else-place-eq0-clause-value : goal.returns-else-place-eq0-clause-value
returns-else-place-eq0-clause-value c = sym (low_half c.args.bytes.now _ c.args.place (omega arith) (omega arith))
